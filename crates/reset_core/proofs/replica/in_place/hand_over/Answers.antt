use Rattle.std.proofs.Common.{◌≡◌, ◌<◌, ◌≤◌, [], ◌∷◌, ◌∙◌, ap, refl, set, slice_index, sym, subst, arith}
use Rattle.grid_core.specs.{declared.bounds.Bounds.Bounds, Bounds.bounds_at, Bounds.joined, Bounds.no_bounds}
use Rattle.grid_core.specs.{Raster.max_level, Raster.value_at, Tiles.tile_of}
use Rattle.tile_work.specs.OpenBounds.{bounds_for}
use Rattle.reset_core.specs.Telling.{ImageAndWork, hints_in, AreHandedOver, both_on, image_on}
use Rattle.reset_core.proofs.{Bounding.follow_rise, TellingHands.one_rises}
use Rattle.reset_core.proofs.replica.in_place.hand_over.Goals as goal

pub returns-then-image-cell-clause-handed : goal.returns-then-image-cell-clause-handed
returns-then-image-cell-clause-handed c =
    let a = c.args in
    let tiles = a.tiling.now in
    let before : ImageAndWork = both_on tiles a.image.now a.work.now in
    let here : tile_of tiles a.hint.to_pixel ≡ a.tile =
    c.requires.rect.0 (c.contains.ensures.0 c.if-not-contains.false) in
    let above : value_at (image_on tiles a.image.now) a.hint.to_pixel < a.hint.value =
    subst (λ k. slice_index a.image.now k < a.hint.value) c.cell_of-cell.ensures.value c.if-image-cell.true in
    let top : a.hint.value ≤ max_level = omega arith in
    let over =
    one_rises tiles a.hint a.tile before (record { width = refl; height = refl }) c.requires.tile.parts.filled
    c.requires.inside c.requires.tile.within here above top in
    let after : ImageAndWork =
    both_on tiles (set a.image.now c.cell_of-cell.result a.hint.value) c.mark_dirty.new.self in
    let same : _ ≡ after = λ i. both_on tiles (set a.image.now (sym c.cell_of-cell.ensures.value i) a.hint.value)
    (sym c.mark_dirty.ensures i) in
    subst (AreHandedOver tiles (hints_in tiles (a.hint ∷ []) a.tile) before) same over

pub returns-then-image-cell-clause-bounds : goal.returns-then-image-cell-clause-bounds
returns-then-image-cell-clause-bounds c conn =
    let a = c.args in
    let tiles = a.tiling.now in
    let parts = c.requires.tile.parts in
    let here : tile_of tiles a.hint.to_pixel ≡ a.tile =
    c.requires.rect.0 (c.contains.ensures.0 c.if-not-contains.false) in
    let above : value_at (image_on tiles a.image.now) a.hint.to_pixel < a.hint.value =
    subst (λ k. slice_index a.image.now k < a.hint.value) c.cell_of-cell.ensures.value c.if-image-cell.true in
    let told : c.widen.new.self ≡ set a.bounds.now a.tile
    (joined (bounds_for a.bounds.now a.tile) (joined no_bounds (bounds_at a.hint.to_pixel))) =
    c.widen.ensures ∙ ap (λ (more : Bounds). set a.bounds.now a.tile (joined (bounds_for a.bounds.now a.tile) more))
    (c.including.ensures ∙ ap (λ (none : Bounds). joined none (bounds_at a.hint.to_pixel)) c.none.ensures) in
    rw (c.cell_of-cell.ensures.value, told)
    (follow_rise tiles conn (image_on tiles a.image.now) a.bounds.now a.hint.to_pixel a.hint.value a.tile parts.tiled
    c.requires.bounds parts.filled refl refl c.requires.inside here above)
