use Rattle.std.proofs.Common.{◌≡◌, ℕ, List, sym, subst, ◌∙◌}
use Rattle.grid_core.specs.{declared.pixel.Pixel.Pixel, Raster.value_at, Tiles.rect_of}
use Rattle.border_queues.specs.{declared.hint.Hint.Hint, Waiting.AddsOrFails, Borders.image_by, Borders.sender_of}
use Rattle.border_queues.specs.OpenEdges.{Sender, EdgesBeginIn, open_edges, room_for_edges, sender_by}
use Rattle.border_queues.proofs.{Around.unmoved_back, Around.whole_covers, Bounded.same_begin, SameEdges.own_image}
use Rattle.border_queues.proofs.edges.open_edges_in.Goals as goal

pub border_of-border-requires-clause-image : goal.border_of-border-requires-clause-image
border_of-border-requires-clause-image c =
    let t = c.args.tiling.now in
    whole_covers t (rect_of t c.args.tile) c.args.image.now c.requires.parts.image_fits

pub border_of-border-requires-clause-mask : goal.border_of-border-requires-clause-mask
border_of-border-requires-clause-mask c =
    let t = c.args.tiling.now in
    whole_covers t (rect_of t c.args.tile) c.args.mask.now c.requires.parts.mask_fits

pub border_of-border-requires-clause-bounds : goal.border_of-border-requires-clause-bounds
border_of-border-requires-clause-bounds c =
    let t = c.args.tiling.now in
    let tile = c.args.tile in
    let image = value_at c.args.image.now in
    let rect = c.rect-rect.result in
    let own = image_by t tile c.args.image.now (record { x = rect.x; y = rect.y }) c.args.image.now
    (record { x = 0; y = 0 }) in
    let of_mask : (Pixel → ℕ) → Sender = λ mask. sender_by t c.args.conn mask own tile c.args.generation in
    let mask = value_at c.args.mask.now in
    subst (λ (mask : Pixel → ℕ). EdgesBeginIn (of_mask mask) c.args.bounds) (sym (unmoved_back mask))
    (same_begin (of_mask mask) image c.args.bounds (own_image c.each_pixel_in_one_tile.ensures t tile image rect
    c.side.ensures.tiled c.requires.parts.tile c.rect-rect.ensures.value) c.requires.bounds)

pub returns : goal.returns
returns c =
    let t = c.args.tiling.now in
    let tile = c.args.tile in
    let tiled = c.side.ensures.tiled in
    let image = value_at c.args.image.now in
    let mask = value_at c.args.mask.now in
    let rect = c.rect-rect.result in
    let own = image_by t tile c.args.image.now (record { x = rect.x; y = rect.y }) c.args.image.now
    (record { x = 0; y = 0 }) in
    let of_mask : (Pixel → ℕ) → Sender = λ mask. sender_by t c.args.conn mask own tile c.args.generation in
    let s = of_mask mask in
    let sender : sender_of c.border_of-border.result ≡ s =
    c.border_of-border.ensures.sender ∙ (λ i. of_mask (unmoved_back mask i)) in
    let itself : open_edges s ≡ open_edges (record s { image = image }) =
    c.same_image_same_edges.ensures s image tiled c.requires.parts.tile
    (own_image c.each_pixel_in_one_tile.ensures t tile
    image rect tiled c.requires.parts.tile c.rect-rect.ensures.value) in
    let told : AddsOrFails c.args.out.now c.tell.new.out (open_edges s) (room_for_edges t) c.tell.result =
    subst (λ (s : Sender). AddsOrFails c.args.out.now c.tell.new.out (open_edges s) (room_for_edges s.tiles)
    c.tell.result) sender c.tell.ensures in
    subst (λ (hs : List Hint). AddsOrFails c.args.out.now c.tell.new.out hs (room_for_edges t) c.tell.result) itself
    told
