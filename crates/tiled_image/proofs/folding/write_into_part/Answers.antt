-- What the tactics leave open of `write_into_part`.
use Rattle.std.proofs.Common.{◌≡◌, Option, sym, subst, ◌∙◌, ap}
use Rattle.std.specs.{Arc.arc_value, Option.IfSome}
use Rattle.grid_core.specs.{Raster.Raster, Tiles.rect_of}
use Rattle.tile_generations.specs.CutMasks.{cut_mask}
use Rattle.tiled_image.proofs.FoldedTiles.{put_back_either}
use Rattle.tiled_image.proofs.folding.write_into_part.Goals as goal

pub take-requires : goal.take-requires
take-requires c = c.requires.within

pub write_own-is_written-requires-clause-count : goal.write_own-is_written-requires-clause-count
write_own-is_written-requires-clause-count c = c.requires.count

pub write_own-is_written-requires-clause-tile : goal.write_own-is_written-requires-clause-tile
write_own-is_written-requires-clause-tile c = c.requires.tile

pub write_own-is_written-requires-clause-width : goal.write_own-is_written-requires-clause-width
write_own-is_written-requires-clause-width c =
    subst (λ (o : Option Raster). IfSome o (λ part. part.width ≡ (rect_of c.args.tiling.now c.args.tile).w))
    (sym c.take.ensures.part ∙ ap cut_mask c.in-Some.is) c.requires.width

pub write_own-is_written-requires-clause-height : goal.write_own-is_written-requires-clause-height
write_own-is_written-requires-clause-height c =
    subst (λ (o : Option Raster). IfSome o (λ part. part.height ≡ (rect_of c.args.tiling.now c.args.tile).h))
    (sym c.take.ensures.part ∙ ap cut_mask c.in-Some.is) c.requires.height

pub returns : goal.returns
returns c =
    let a = c.args in
    put_back_either a.tiling.now a.tile a.rims.now a.parts.now (arc_value c.in-Some.part)
    (sym c.take.ensures.part ∙ ap cut_mask c.in-Some.is) (arc_value c.write_own-is_written.new.part) c.take.new.self
    c.put.new.self c.take.ensures.rest c.put.ensures c.write_own-is_written.result c.write_own-is_written.ensures
