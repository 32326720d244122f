-- What the tactics leave open of `renew`.
use Rattle.std.proofs.Common.{◌≡◌, ap, false, inr, length, replicate, subst, sym, ◌∙◌}
use Rattle.std.proofs.Math.ListN.{length-replicate}
use Rattle.grid_core.specs.Raster.{Raster}
use Rattle.grid_core.specs.Tiles.{count_of}
use Rattle.reset_core.specs.{Bounding.FollowResets, MergeSteps.AreRenewed, MergeSteps.CanRenew}
use Rattle.tiled_image.specs.{RaisedTiles.whole_of, TiledImage.TiledRaster}
use Rattle.tiled_image.proofs.ChangedTiles.{all_changed, changed_is}
use Rattle.tiled_image.proofs.RenewedTiles.{merged_size, merged_values, works_counted}
use Rattle.tiled_image.proofs.image.TiledImage.renew.Goals as goal

pub renew-requires-clause-renew : goal.renew-requires-clause-renew
renew-requires-clause-renew c =
    let a = c.args in
    let rows_now = c.write_all.ensures.rows ∙ ap (λ (r : TiledRaster). r.image) c.self.view_is in
    subst (λ (image : Raster). CanRenew a.markers.now a.marks.now image a.work.now a.state.now a.change.now)
    (sym rows_now) c.requires.renew

pub add_dirty-requires : goal.add_dirty-requires
add_dirty-requires c =
    let rows = c.write_all.ensures in
    let tiles_are = c.requires.tiling ∙ sym (ap (λ (r : TiledRaster). r.tiling) c.self.view_is) in
    let unspent = c.requires.renew.unspent in
    ap length c.renew.ensures.renewed.marks_are
    ∙ length-replicate (length c.args.marks.now) false
    ∙ unspent.marked
    ∙ ap count_of tiles_are
    ∙ sym (works_counted rows.kept rows.rows tiles_are c.renew.ensures.renewed.image_is unspent.works)

pub let_go-requires : goal.let_go-requires
let_go-requires c =
    let tiles_are = c.requires.tiling ∙ sym (ap (λ (r : TiledRaster). r.tiling) c.self.view_is) in
    c.add_dirty.ensures.count
    ∙ ap length c.renew.ensures.renewed.marks_are
    ∙ length-replicate (length c.args.marks.now) false
    ∙ c.requires.renew.unspent.marked
    ∙ ap count_of tiles_are
    ∙ sym c.write_all.ensures.kept.are_cut.count

pub mark_all-requires : goal.mark_all-requires
mark_all-requires c =
    let tiles_are = c.requires.tiling ∙ sym (ap (λ (r : TiledRaster). r.tiling) c.self.view_is) in
    c.add_dirty.ensures.count
    ∙ ap length c.renew.ensures.renewed.marks_are
    ∙ length-replicate (length c.args.marks.now) false
    ∙ c.requires.renew.unspent.marked
    ∙ ap count_of tiles_are
    ∙ sym c.self.invariant.copies_are.count

pub take_rims-requires-clause-count : goal.take_rims-requires-clause-count
take_rims-requires-clause-count c = c.self.invariant.shown.rims_are.count

pub take_rims-requires-clause-tiles : goal.take_rims-requires-clause-tiles
take_rims-requires-clause-tiles c =
    let tiles_are = c.requires.tiling ∙ sym (ap (λ (r : TiledRaster). r.tiling) c.self.view_is) in
    c.add_dirty.ensures.count
    ∙ ap length c.renew.ensures.renewed.marks_are
    ∙ length-replicate (length c.args.marks.now) false
    ∙ c.requires.renew.unspent.marked
    ∙ ap count_of tiles_are

pub take_rims-requires-clause-width : goal.take_rims-requires-clause-width
take_rims-requires-clause-width c =
    let rows = c.write_all.ensures in
    let tiles_are = c.requires.tiling ∙ sym (ap (λ (r : TiledRaster). r.tiling) c.self.view_is) in
    let size = merged_size rows.kept rows.rows tiles_are c.renew.ensures.renewed.image_is
    c.requires.renew.unspent.works in
    size.width ∙ rows.kept.of_tiling.width

pub take_rims-requires-clause-height : goal.take_rims-requires-clause-height
take_rims-requires-clause-height c =
    let rows = c.write_all.ensures in
    let tiles_are = c.requires.tiling ∙ sym (ap (λ (r : TiledRaster). r.tiling) c.self.view_is) in
    let size = merged_size rows.kept rows.rows tiles_are c.renew.ensures.renewed.image_is
    c.requires.renew.unspent.works in
    size.height ∙ rows.kept.of_tiling.height

pub invariant_of-self : goal.invariant_of-self
invariant_of-self c =
    let rows = c.write_all.ensures in
    let tiles_are = c.requires.tiling ∙ sym (ap (λ (r : TiledRaster). r.tiling) c.self.view_is) in
    let renewed = c.renew.ensures.renewed.image_is in
    let works = c.requires.renew.unspent.works in
    let added = c.add_dirty.ensures in
    all_changed c.write_all.new.raised rows.kept rows.none (rows.count ∙ c.self.invariant.count)
    c.self.invariant.shown.rims_are c.self.invariant.copies_are c.add_dirty.new.set c.renew.new.image
    (merged_size rows.kept rows.rows tiles_are renewed works)
    (λ p inside spared. merged_values rows.kept rows.rows tiles_are renewed works p inside
    (λ dirty. spared ((added.each _).1 (inr dirty))))
    c.let_go.new.parts c.let_go.ensures c.take_rims.new.rims c.take_rims.ensures c.mark_all.new.self c.mark_all.ensures

pub returns-clause-tiling : goal.returns-clause-tiling
returns-clause-tiling c = ap (λ (r : TiledRaster). r.tiling) c.self.view_is

pub returns-clause-renewed : goal.returns-clause-renewed
returns-clause-renewed c =
    let a = c.args in
    let i = c.self.inside in
    let rows = c.write_all.ensures in
    let tiles_are = c.requires.tiling ∙ sym (ap (λ (r : TiledRaster). r.tiling) c.self.view_is) in
    let renewed = c.renew.ensures.renewed.image_is in
    let works = c.requires.renew.unspent.works in
    let added = c.add_dirty.ensures in
    let new_is = changed_is c.write_all.new.raised rows.kept rows.none (rows.count ∙ c.self.invariant.count)
    c.self.invariant.shown.rims_are c.self.invariant.copies_are c.add_dirty.new.set c.renew.new.image
    (merged_size rows.kept rows.rows tiles_are renewed works)
    (λ p inside spared. merged_values rows.kept rows.rows tiles_are renewed works p inside
    (λ dirty. spared ((added.each _).1 (inr dirty))))
    c.let_go.new.parts c.let_go.ensures c.take_rims.new.rims c.take_rims.ensures in
    let after = whole_of i.tiling c.renew.new.image c.let_go.new.parts c.write_all.new.newer c.take_rims.new.rims in
    let rows_now = rows.rows ∙ ap (λ (r : TiledRaster). r.image) c.self.view_is in
    let no_marks : c.clear.new.self ≡ replicate (length a.marks.now) false =
    c.clear.ensures
    ∙ ap (λ n. replicate n false) (added.count ∙ ap length c.renew.ensures.renewed.marks_are
    ∙ length-replicate (length a.marks.now) false) in
    let given = c.renew.ensures.renewed in
    subst (λ (r : Raster). AreRenewed a.markers.now a.marks.now r a.work.now a.state.now a.change.now
    c.renew.new.markers c.clear.new.self after c.renew.new.work) rows_now
    (subst (λ (r : Raster). AreRenewed a.markers.now a.marks.now c.write_all.new.rows a.work.now a.state.now
    a.change.now c.renew.new.markers c.clear.new.self r c.renew.new.work) (sym new_is)
    (record { marker = given.marker; marks_are = no_marks; image_is = given.image_is }))

pub returns-clause-bounds : goal.returns-clause-bounds
returns-clause-bounds c conn =
    let a = c.args in
    let i = c.self.inside in
    let rows = c.write_all.ensures in
    let tiles_are = c.requires.tiling ∙ sym (ap (λ (r : TiledRaster). r.tiling) c.self.view_is) in
    let renewed = c.renew.ensures.renewed.image_is in
    let works = c.requires.renew.unspent.works in
    let added = c.add_dirty.ensures in
    let new_is = changed_is c.write_all.new.raised rows.kept rows.none (rows.count ∙ c.self.invariant.count)
    c.self.invariant.shown.rims_are c.self.invariant.copies_are c.add_dirty.new.set c.renew.new.image
    (merged_size rows.kept rows.rows tiles_are renewed works)
    (λ p inside spared. merged_values rows.kept rows.rows tiles_are renewed works p inside
    (λ dirty. spared ((added.each _).1 (inr dirty))))
    c.let_go.new.parts c.let_go.ensures c.take_rims.new.rims c.take_rims.ensures in
    let after = whole_of i.tiling c.renew.new.image c.let_go.new.parts c.write_all.new.newer c.take_rims.new.rims in
    let rows_now = rows.rows ∙ ap (λ (r : TiledRaster). r.image) c.self.view_is in
    let Follow : Raster → Raster → Type 0 = λ before now.
    FollowResets a.markers.now.tiling conn a.marks.now before now a.bounds.now c.renew.new.bounds in
    subst (λ (r : Raster). Follow r after) rows_now
    (subst (λ (r : Raster). Follow c.write_all.new.rows r) (sym new_is) (c.renew.ensures.bounds conn))
