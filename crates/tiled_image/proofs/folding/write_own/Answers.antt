-- What the tactics leave open of `write_own`.
use Rattle.std.proofs.Common.{ap, sym, subst, ◌∙◌}
use Rattle.grid_core.specs.{declared.rect.Rect.Rect, Bounds.LieIn, Bounds.bounds_of, Raster.Raster, Tiles.rect_of}
use Rattle.tiled_image.specs.RaisedTiles.{IsRimIn, IsRimWritten}
use Rattle.tiled_image.proofs.Places.{lies_in_itself}
use Rattle.tiled_image.proofs.folding.write_own.Goals as goal

pub rect-rect-requires : goal.rect-rect-requires
rect-rect-requires c = c.requires.tile

pub write-requires-clause-count : goal.write-requires-clause-count
write-requires-clause-count c = c.requires.count

pub write-requires-clause-tile : goal.write-requires-clause-tile
write-requires-clause-tile c = c.requires.tile

pub write-requires-clause-width : goal.write-requires-clause-width
write-requires-clause-width c =
    ap (λ (r : Raster). r.width) (c.in-Some.ensures.value ∙ c.unshare.ensures) ∙ c.requires.width
    ∙ ap (λ (r : Rect). r.w) (sym c.rect-rect.ensures.value)

pub write-requires-clause-height : goal.write-requires-clause-height
write-requires-clause-height c =
    ap (λ (r : Raster). r.height) (c.in-Some.ensures.value ∙ c.unshare.ensures) ∙ c.requires.height
    ∙ ap (λ (r : Rect). r.h) (sym c.rect-rect.ensures.value)

pub write-requires-clause-lies : goal.write-requires-clause-lies
write-requires-clause-lies c =
    let own = rect_of c.args.tiling.now c.args.tile in
    subst (λ (r : Rect). LieIn (bounds_of own) r) (sym c.rect-rect.ensures.value) (lies_in_itself own)

pub returns-in-Some : goal.returns-in-Some
returns-in-Some c =
    let a = c.args in
    let tiling = a.tiling.now in
    let own = c.in-Some.own.now in
    let new = c.write.new.image in
    subst (λ (r : Raster). IsRimIn tiling a.tile a.rims.now r new) (c.in-Some.ensures.value ∙ c.unshare.ensures)
    (record {
      size = c.write.ensures.size;
      written = λ whole are.
          subst (λ (r : Rect). IsRimWritten tiling a.tile whole r own new) c.rect-rect.ensures.value
          (c.write.ensures.written whole are);
    })

pub returns-in-None : goal.returns-in-None
returns-in-None c = c.unshare.ensures
