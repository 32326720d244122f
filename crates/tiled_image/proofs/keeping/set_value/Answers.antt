-- What the tactics leave open of `set_value`.
use Rattle.std.proofs.Common.{List, Option, Some, None, slice_index_or, slice_set, sym, subst, ap, ◌∙◌}
use Rattle.grid_core.specs.{declared.pixel.Pixel.Pixel, declared.rect.Rect.Rect, Raster.Raster, Raster.IsInside}
use Rattle.grid_core.specs.{Raster.with_value, Rects.IsInRect}
use Rattle.tiled_image.specs.{Shown.place_in, TiledImage.IsKept, TiledImage.IsKeptAs, TiledImage.image_of}
use Rattle.tiled_image.proofs.KeptImages.{bit_within, inside_image, part_at, slot_within}
use Rattle.tiled_image.proofs.KeptPixels.{part_and_rows_set, rows_alone_set}
use Rattle.tiled_image.proofs.PartsAt.{if_there, was_not, was_set}
use Rattle.tiled_image.proofs.Places.{pixel_in_tile}
use Rattle.tiled_image.proofs.keeping.set_value.Goals as goal

pub set_unshared-requires-clause-tile : goal.set_unshared-requires-clause-tile
set_unshared-requires-clause-tile c = slot_within c.requires.kept c.args.tile c.requires.tile

pub set_unshared-requires-clause-inside : goal.set_unshared-requires-clause-inside
set_unshared-requires-clause-inside c =
    let place = c.place_in-place.result in
    if_there (slice_index_or c.args.parts.now c.args.tile None) (λ (m : Raster). IsInside m.width m.height place)
    (λ m there. subst (λ (q : Pixel). IsInside m.width m.height q) (sym c.place_in-place.ensures.value)
    (part_at c.requires.kept c.args.tile c.requires.tile m there c.args.rect c.requires.rect c.args.p
    c.requires.inside).0)

pub set_in_rows-requires-clause-tile : goal.set_in_rows-requires-clause-tile
set_in_rows-requires-clause-tile c = bit_within c.requires.kept c.args.tile c.requires.tile

pub set_in_rows-requires-clause-inside : goal.set_in_rows-requires-clause-inside
set_in_rows-requires-clause-inside c =
    let tiling = c.args.tiling.now in
    inside_image tiling c.args.rows.now c.requires.kept.rows_of_tiling c.args.p
    (pixel_in_tile tiling c.args.tile c.requires.kept.of_tiling.tiled c.requires.tile c.args.p
    (subst (λ (r : Rect). IsInRect r c.args.p) c.requires.rect c.requires.inside)).0

pub returns-then-set_unshared : goal.returns-then-set_unshared
returns-then-set_unshared c =
    let tile = c.args.tile in
    let parts = c.args.parts.now in
    let new = c.set_unshared.new.self in
    let value = c.args.value in
    let is_set = was_set c.set_unshared.result tile c.place_in-place.result value parts new c.set_unshared.ensures
    c.if-set_unshared.true in
    let place = c.place_in-place.ensures.value ∙ ap (λ (rect : Rect). place_in rect c.args.p) c.requires.rect in
    let (inside, own) = pixel_in_tile c.args.tiling.now tile c.requires.kept.of_tiling.tiled c.requires.tile c.args.p
    (subst (λ (r : Rect). IsInRect r c.args.p) c.requires.rect c.requires.inside) in
    part_and_rows_set c.requires.kept c.args.p value tile inside own is_set.part is_set.was new
    (is_set.is
    ∙ ap (λ (q : Pixel). slice_set parts tile (Some (with_value is_set.part q value))) place)
    c.set_in_rows.new.rows c.set_in_rows.ensures

pub let_go-requires-clause-kept : goal.let_go-requires-clause-kept
let_go-requires-clause-kept c =
    let same = was_not c.set_unshared.result c.args.tile c.place_in-place.result c.args.value c.args.parts.now
    c.set_unshared.new.self c.set_unshared.ensures c.if-set_unshared.false in
    subst (λ (parts : List (Option Raster)). IsKept c.args.tiling.now c.args.rows.now parts c.args.newer.now) (sym same)
    c.requires.kept

pub set-requires : goal.set-requires
set-requires c =
    let tiling = c.args.tiling.now in
    inside_image tiling c.let_go.new.rows c.let_go.ensures.kept.rows_of_tiling c.args.p
    (pixel_in_tile tiling c.args.tile c.requires.kept.of_tiling.tiled c.requires.tile c.args.p
    (subst (λ (r : Rect). IsInRect r c.args.p) c.requires.rect c.requires.inside)).0

pub returns-else-set_unshared : goal.returns-else-set_unshared
returns-else-set_unshared c =
    let tiling = c.args.tiling.now in
    let tile = c.args.tile in
    let value = c.args.value in
    let same = was_not c.set_unshared.result tile c.place_in-place.result value c.args.parts.now c.set_unshared.new.self
    c.set_unshared.ensures c.if-set_unshared.false in
    let (inside, own) = pixel_in_tile tiling tile c.requires.kept.of_tiling.tiled c.requires.tile c.args.p
    (subst (λ (r : Rect). IsInRect r c.args.p) c.requires.rect c.requires.inside) in
    let done = rows_alone_set c.let_go.ensures.kept c.args.p value tile inside own c.let_go.ensures.none in
    subst (λ (rows : Raster). IsKeptAs (with_value (image_of tiling c.args.rows.now c.args.parts.now c.args.newer.now)
    c.args.p value) tiling rows c.let_go.new.parts c.let_go.new.newer) (sym c.set.ensures)
    (subst (λ (parts : List (Option Raster)). IsKeptAs (with_value (image_of tiling c.args.rows.now parts
    c.args.newer.now) c.args.p value) tiling (with_value c.let_go.new.rows c.args.p value) c.let_go.new.parts
    c.let_go.new.newer) same done)
