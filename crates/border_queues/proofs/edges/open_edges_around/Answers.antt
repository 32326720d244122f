use Rattle.std.proofs.Common.{◌≡◌, ◌-◌, List, ap, sym, subst, ◌∙◌}
use Rattle.grid_core.specs.{declared.bounds.Bounds.Bounds, declared.pixel.Pixel.Pixel, declared.rect.Rect.Rect}
use Rattle.grid_core.specs.{Bounds.LieIn, Bounds.bounds_of, Rects.RectFits, Tiles.rect_of}
use Rattle.border_queues.specs.{declared.hint.Hint.Hint, Around.around_of, Waiting.AddsOrFails}
use Rattle.border_queues.specs.OpenEdges.{Sender, open_edges, room_for_edges, sender_by}
use Rattle.border_queues.specs.Borders.{image_by, seen_from}
use Rattle.border_queues.proofs.Around.{bounds_lie, counted_back, ends_fit, fits_grown, patch_covers}
use Rattle.border_queues.proofs.SameEdges.{ring_has_edges}
use Rattle.border_queues.proofs.edges.open_edges_around.Goals as goal

pub of-bounds-requires : goal.of-bounds-requires
of-bounds-requires c =
    let t = c.args.tiling.now in
    let small = ends_fit t.width t.height c.rect-rect.result c.side.ensures.tiled.size c.rect-rect.ensures.fits in
    record { columns = small.0; rows = small.1 }

pub border_of-border-requires-clause-image : goal.border_of-border-requires-clause-image
border_of-border-requires-clause-image c =
    let origin : Pixel = record { x = c.saturating_sub.result; y = c.saturating_sub-2.result } in
    patch_covers c.args.tiling.now c.args.tile c.rect-rect.result origin c.args.patch.now c.rect-rect.ensures.value
    c.saturating_sub.ensures c.saturating_sub-2.ensures c.requires.patch

pub border_of-border-requires-clause-mask : goal.border_of-border-requires-clause-mask
border_of-border-requires-clause-mask c =
    let origin : Pixel = record { x = c.saturating_sub.result; y = c.saturating_sub-2.result } in
    patch_covers c.args.tiling.now c.args.tile c.rect-rect.result origin c.args.limits.now c.rect-rect.ensures.value
    c.saturating_sub.ensures c.saturating_sub-2.ensures c.requires.limits

pub border_of-border-requires-clause-lie : goal.border_of-border-requires-clause-lie
border_of-border-requires-clause-lie c =
    let rect = rect_of c.args.tiling.now c.args.tile in
    subst (λ (bounds : Bounds). LieIn bounds rect)
    (sym (c.of-bounds.ensures ∙ ap bounds_of c.rect-rect.ensures.value)) (bounds_lie rect)

pub border_of-border-requires-clause-bounds : goal.border_of-border-requires-clause-bounds
border_of-border-requires-clause-bounds c =
    c.edges_begin_in_tile.ensures _ c.of-bounds.result c.side.ensures.tiled c.requires.tile
    (c.of-bounds.ensures ∙ ap bounds_of c.rect-rect.ensures.value)

pub border_of-border-requires-clause-columns : goal.border_of-border-requires-clause-columns
border_of-border-requires-clause-columns c =
    let t = c.args.tiling.now in
    let rect = rect_of t c.args.tile in
    let fits : RectFits t.width t.height rect =
    subst (RectFits t.width t.height) c.rect-rect.ensures.value c.rect-rect.ensures.fits in
    fits_grown c.rect-rect.result.x rect.w t.width c.saturating_sub.result c.args.patch.now.width rect.x
    c.saturating_sub.ensures (ap (λ (r : Rect). r.x) c.rect-rect.ensures.value) fits.columns c.requires.patch.width

pub border_of-border-requires-clause-rows : goal.border_of-border-requires-clause-rows
border_of-border-requires-clause-rows c =
    let t = c.args.tiling.now in
    let rect = rect_of t c.args.tile in
    let fits : RectFits t.width t.height rect =
    subst (RectFits t.width t.height) c.rect-rect.ensures.value c.rect-rect.ensures.fits in
    fits_grown c.rect-rect.result.y rect.h t.height c.saturating_sub-2.result c.args.patch.now.height rect.y
    c.saturating_sub-2.ensures (ap (λ (r : Rect). r.y) c.rect-rect.ensures.value) fits.rows c.requires.patch.height

pub returns : goal.returns
returns c =
    let t = c.args.tiling.now in
    let tile = c.args.tile in
    let patch = c.args.patch.now in
    let limits = c.args.limits.now in
    let rect = c.rect-rect.result in
    let own = rect_of t tile in
    let origin : Pixel = record { x = c.saturating_sub.result; y = c.saturating_sub-2.result } in
    let corner : Pixel = record { x = rect.x - origin.x; y = rect.y - origin.y } in
    let around = around_of t tile in
    let left = c.saturating_sub.ensures ∙ ap (λ (r : Rect). r.x - 1) c.rect-rect.ensures.value in
    let top = c.saturating_sub-2.ensures ∙ ap (λ (r : Rect). r.y - 1) c.rect-rect.ensures.value in
    let begins : origin ≡ record { x = around.x; y = around.y } = λ i. record { x = left i; y = top i } in
    let fits : RectFits t.width t.height own =
    subst (RectFits t.width t.height) c.rect-rect.ensures.value c.rect-rect.ensures.fits in
    let s =
    sender_by t c.args.conn (seen_from origin limits) (image_by t tile patch corner patch origin) tile
    c.args.generation in
    let told : AddsOrFails c.args.out.now c.tell.new.out (open_edges s) (room_for_edges t) c.tell.result =
    subst (λ (s : Sender). AddsOrFails c.args.out.now c.tell.new.out (open_edges s) (room_for_edges s.tiles)
    c.tell.result) c.border_of-border.ensures.sender c.tell.ensures in
    λ image mask rimmed ring.
    subst (λ (hs : List Hint). AddsOrFails c.args.out.now c.tell.new.out hs (room_for_edges t) c.tell.result)
    (ring_has_edges c.same_around_same_edges.ensures c.each_pixel_in_one_tile.ensures t c.args.conn tile
    c.args.generation image mask patch limits corner origin c.side.ensures.tiled c.requires.tile fits begins
    (counted_back rect.x origin.x own.x c.saturating_sub.ensures (ap (λ (r : Rect). r.x) c.rect-rect.ensures.value))
    (counted_back rect.y origin.y own.y c.saturating_sub-2.ensures (ap (λ (r : Rect). r.y) c.rect-rect.ensures.value))
    rimmed ring) told
