-- What the tactics leave open of `next_copy`.
use Rattle.std.proofs.Common.{Bool, List, ap, false, length, sym, subst, ◌∙◌}
use Rattle.std.proofs.lemmas.List.{length-replicate}
use Rattle.grid_core.specs.Raster.{Raster}
use Rattle.tile_work.specs.TileSet.{Has}
use Rattle.tiled_image.specs.{RaisedTiles.whole_of, SharedCopies.IsCopyBut, TiledImage.TiledRaster}
use Rattle.tiled_image.proofs.KeptImages.{image_is, is_kept}
use Rattle.tiled_image.proofs.{AllKept.seen, AllKept.with_all, LaidRims.plainly_shown}
use Rattle.tiled_image.proofs.{SharedCopies.stale_copy, SharedCopies.taken_copies}
use Rattle.tiled_image.proofs.image.TiledImage.next_copy.Goals as goal

pub invariant_of-self : goal.invariant_of-self
invariant_of-self c =
    let i = c.self.invariant in
    with_all c.self.inside.raised i.kept i.shown i.count
    (taken_copies i.copies_are c.take_oldest.new.self c.take_oldest.result c.take_oldest.ensures)

pub copy_tiles-requires-clause-kept : goal.copy_tiles-requires-clause-kept
copy_tiles-requires-clause-kept c = is_kept c.fold_all.ensures.kept

pub copy_tiles-requires-clause-copy : goal.copy_tiles-requires-clause-copy
copy_tiles-requires-clause-copy c =
    let i = c.self.inside in
    let oldest = c.in-Some.oldest in
    let whole = whole_of i.tiling i.rows i.parts i.newer i.rims in
    subst (λ (r : Raster). IsCopyBut (Has c.stale-stale.result.now) i.tiling r oldest)
    (sym (image_is c.fold_all.ensures.kept))
    (subst (λ (tiles : List Bool). IsCopyBut (Has tiles) i.tiling whole oldest) (sym c.stale-stale.ensures)
    (stale_copy c.self.invariant.copies_are c.take_oldest.new.self c.take_oldest.result c.take_oldest.ensures oldest
    c.in-Some.is))

pub invariant_of-self-2 : goal.invariant_of-self-2
invariant_of-self-2 c =
    let i = c.self.inside in
    let whole = whole_of i.tiling i.rows i.parts i.newer i.rims in
    let kept = c.self.invariant in
    with_all c.fold_all.new.raised c.fold_all.ensures.kept
    (plainly_shown (Has c.fold_all.new.raised) i.tiling whole i.rims kept.shown.of_tiling kept.shown.rims_are)
    (ap length c.fold_all.ensures.raised ∙ length-replicate (length i.raised) false ∙ kept.count)
    (taken_copies kept.copies_are c.take_oldest.new.self c.take_oldest.result c.take_oldest.ensures)

pub returns-clause-copy : goal.returns-clause-copy
returns-clause-copy c =
    c.copy_tiles.ensures ∙ image_is c.fold_all.ensures.kept ∙ ap (λ (r : TiledRaster). r.image) c.self.view_is

pub returns-clause-same : goal.returns-clause-same
returns-clause-same c =
    let i = c.self.inside in
    let whole = whole_of i.tiling i.rows i.parts i.newer i.rims in
    seen c.fold_all.new.raised c.fold_all.ensures.kept
    (plainly_shown (Has c.fold_all.new.raised) i.tiling whole i.rims c.self.invariant.shown.of_tiling
    c.self.invariant.shown.rims_are) ∙ c.self.view_is
