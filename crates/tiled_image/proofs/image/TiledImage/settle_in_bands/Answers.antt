-- What the tactics leave open of `settle_in_bands`.
use Rattle.std.proofs.Common.{◌≡◌, ap, false, replicate, subst, sym, ◌∙◌}
use Rattle.grid_core.specs.Raster.{Raster, IsOfSize, value_at}
use Rattle.grid_core.specs.Tiles.{count_of}
use Rattle.reset_core.specs.Replica.{stored_as, IsStored}
use Rattle.tiled_image.specs.{RaisedTiles.whole_of, TiledImage.TiledRaster}
use Rattle.tiled_image.specs.Settling.{HasSettled, core_with, parts_with}
use Rattle.tiled_image.proofs.ChangedTiles.{all_changed, changed_is}
use Rattle.tiled_image.proofs.SettledRows.{AreSettled, are_settled, stored_works}
use Rattle.tiled_image.proofs.image.TiledImage.settle_in_bands.{Given.Over, Goals.After-swap, Goals.After-take_all}
use Rattle.tiled_image.proofs.image.TiledImage.settle_in_bands.Goals as goal

settled : (g : Over) (c : After-swap g)
    → AreSettled (whole_of c.self.inside.tiling c.self.inside.rows c.self.inside.parts c.self.inside.newer
    c.self.inside.rims) c.self.inside.tiling (parts_with c.args.self.now.image c.args.core)
    (stored_as c.into_stored-settled.result) c.settle_in_bands-slice.new.swept c.args.jobs
    c.settle_in_bands-slice.result
settled g c =
    let seen = ap (λ (r : TiledRaster). r.image) c.self.view_is in
    let tiles_are = c.requires.tiling ∙ sym (ap (λ (r : TiledRaster). r.tiling) c.self.view_is) in
    let slice = c.settle_in_bands-slice.ensures in
    let before_is = c.into_core-settling.ensures
    ∙ ap (λ (r : Raster). core_with r c.args.core)
    (c.replace-image.ensures.value ∙ c.write_all.ensures.rows ∙ seen) in
    let after_is = sym c.into_stored-settled.ensures.core in
    are_settled _ _ (parts_with c.args.self.now.image c.args.core) c.requires.stored tiles_are (sym seen)
    (stored_as c.into_stored-settled.result) c.into_stored-settled.ensures.stored c.in-Ok.none
    c.settle_in_bands-slice.new.swept
    (c.in-Ok.ensures ∙ ap (λ n. replicate n false) (c.count.ensures.value ∙ ap count_of (sym tiles_are)
    ∙ sym (stored_works (parts_with c.args.self.now.image c.args.core) c.requires.stored)))
    c.args.jobs c.settle_in_bands-slice.result
    (rw (before_is, after_is) at slice.slice) (rw (before_is, after_is) at slice.cut_short)
    (rw after_is at slice.none_out) (rw (before_is, after_is) at slice.unchanged)

pub add_dirty-requires : goal.add_dirty-requires
add_dirty-requires g c =
    let is = settled g (goal.at.add_dirty-requires g c).After-swap in
    is.swept_count ∙ sym is.works

pub let_go-requires : goal.let_go-requires
let_go-requires g c =
    let is = settled g (goal.at.let_go-requires g c).After-swap in
    c.add_dirty.ensures.count ∙ is.swept_count ∙ sym c.write_all.ensures.kept.are_cut.count

pub mark_all-requires : goal.mark_all-requires
mark_all-requires g c =
    let is = settled g (goal.at.mark_all-requires g c).After-swap in
    c.add_dirty.ensures.count ∙ is.swept_count ∙ sym c.self.invariant.copies_are.count

pub take_all-requires-clause-tiles : goal.take_all-requires-clause-tiles
take_all-requires-clause-tiles g c κs within =
    let is = settled g (goal.at.take_all-requires-clause-tiles g c).After-swap in
    c.add_dirty.ensures.count ∙ is.swept_count

pub take_all-requires-clause-width : goal.take_all-requires-clause-width
take_all-requires-clause-width g c κs within =
    let is = settled g (goal.at.take_all-requires-clause-width g c).After-swap in
    ap (λ (r : Raster). r.width) c.swap.ensures.x_after ∙ is.size.width ∙ c.write_all.ensures.kept.of_tiling.width

pub take_all-requires-clause-height : goal.take_all-requires-clause-height
take_all-requires-clause-height g c κs within =
    let is = settled g (goal.at.take_all-requires-clause-height g c).After-swap in
    ap (λ (r : Raster). r.height) c.swap.ensures.x_after ∙ is.size.height ∙ c.write_all.ensures.kept.of_tiling.height

pub invariant_of-self : goal.invariant_of-self
invariant_of-self g c =
    let is = settled g (goal.at.invariant_of-self g c).After-swap in
    let rows = c.write_all.ensures in
    let now = c.swap.ensures.x_after in
    all_changed c.write_all.new.raised rows.kept rows.none (rows.count ∙ c.self.invariant.count)
    c.self.invariant.shown.rims_are c.self.invariant.copies_are c.add_dirty.new.set c.swap.new.x
    (subst (IsOfSize _) (sym now) is.size)
    (λ p inside spared.
    ap (λ (r : Raster). value_at r p) now ∙ is.values c.add_dirty.new.set c.add_dirty.ensures p inside spared)
    c.let_go.new.parts c.let_go.ensures c.take_all.new.self c.take_all.ensures c.mark_all.new.self c.mark_all.ensures

-- the image is that of the core that settled
image_is : (g : Over) (c : After-take_all g)
    → AreSettled (whole_of c.self.inside.tiling c.self.inside.rows c.self.inside.parts c.self.inside.newer
    c.self.inside.rims) c.self.inside.tiling (parts_with c.args.self.now.image c.args.core)
    (stored_as c.into_stored-settled.result) c.settle_in_bands-slice.new.swept c.args.jobs
    c.settle_in_bands-slice.result
    → c.into_stored-settled.result.image
    ≡ whole_of c.self.inside.tiling c.swap.new.x c.let_go.new.parts c.write_all.new.newer c.take_all.new.self
image_is g c is =
    let rows = c.write_all.ensures in
    let now = c.swap.ensures.x_after in
    sym now
    ∙ sym (changed_is c.write_all.new.raised rows.kept rows.none (rows.count ∙ c.self.invariant.count)
    c.self.invariant.shown.rims_are c.self.invariant.copies_are c.add_dirty.new.set c.swap.new.x
    (subst (IsOfSize _) (sym now) is.size)
    (λ p inside spared.
    ap (λ (r : Raster). value_at r p) now ∙ is.values c.add_dirty.new.set c.add_dirty.ensures p inside spared)
    c.let_go.new.parts c.let_go.ensures c.take_all.new.self c.take_all.ensures)

pub returns-clause-stored : goal.returns-clause-stored
returns-clause-stored g c =
    let at = goal.at.returns-clause-stored g c in
    subst (λ (r : Raster). IsStored (parts_with r c.into_stored-settled.result))
    (image_is g at.After-take_all (settled g at.After-swap)) c.into_stored-settled.ensures.stored

pub returns-clause-settled : goal.returns-clause-settled
returns-clause-settled g c =
    let at = goal.at.returns-clause-settled g c in
    let is = settled g at.After-swap in
    subst (λ (r : Raster). HasSettled (core_with c.args.self.now.image c.args.core) c.args.jobs
    c.settle_in_bands-slice.result (core_with r c.into_stored-settled.result))
    (image_is g at.After-take_all is) is.settled
