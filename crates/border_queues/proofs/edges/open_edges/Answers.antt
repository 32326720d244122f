use Rattle.std.proofs.Common.{◌≡◌, ℕ, ap, sym, subst, ◌∙◌, arith}
use Rattle.grid_core.specs.{declared.pixel.Pixel.Pixel, Bounds.bounds_of, Raster.value_at, Tiles.rect_of}
use Rattle.border_queues.specs.{Waiting.AddsOrFails, Borders.moved, Borders.seen_from, Borders.sender_of}
use Rattle.border_queues.specs.OpenEdges.{Sender, IsOnTiling, open_edges, room_for_edges, sender_by, with_tile}
use Rattle.border_queues.proofs.Around.{unmoved, unmoved_back, whole_covers}
use Rattle.border_queues.proofs.edges.open_edges.Goals as goal

pub of-bounds-requires : goal.of-bounds-requires
of-bounds-requires c =
    let fits = c.rect.ensures.fits in
    let size = c.side.ensures.tiled.size in
    record { columns = omega (arith, fits.columns, size); rows = omega (arith, fits.rows, size) }

pub border_of-border-requires-clause-image : goal.border_of-border-requires-clause-image
border_of-border-requires-clause-image c =
    let t = c.args.tiling.now in
    whole_covers t (rect_of t c.args.tile) c.of-image.result
    (subst (IsOnTiling t) (sym c.of-image.ensures) c.requires.parts.image_fits)

pub border_of-border-requires-clause-mask : goal.border_of-border-requires-clause-mask
border_of-border-requires-clause-mask c =
    let t = c.args.tiling.now in
    whole_covers t (rect_of t c.args.tile) c.of-mask.result
    (subst (IsOnTiling t) (sym c.of-mask.ensures) c.requires.parts.mask_fits)

pub border_of-border-requires-clause-bounds : goal.border_of-border-requires-clause-bounds
border_of-border-requires-clause-bounds c =
    c.edges_begin_in_tile.ensures _ c.of-bounds.result c.side.ensures.tiled c.requires.parts.tile
    (c.of-bounds.ensures ∙ ap bounds_of c.rect.ensures.value)

pub returns : goal.returns
returns c =
    let t = c.args.tiling.now in
    let tile = c.args.tile in
    let border = c.border_of-border.result in
    let mask = value_at c.args.mask.now in
    let inside = value_at c.args.inside.now in
    let image = value_at c.args.image.now in
    let first : Pixel = record { x = 0; y = 0 } in
    let of_values : (Pixel → ℕ) → (Pixel → ℕ) → (Pixel → ℕ) → Sender = λ mask own beyond.
    sender_by t c.args.conn mask (with_tile t tile own beyond) tile c.args.generation in
    let views : of_values (seen_from first c.of-mask.result) (λ p. value_at c.of-inside.result (moved first p))
    (seen_from first c.of-image.result)
    ≡ of_values (seen_from first c.args.mask.now) (λ p. inside (moved first p)) (seen_from first c.args.image.now) =
    λ i. of_values (seen_from first (c.of-mask.ensures i)) (λ p. value_at (c.of-inside.ensures i) (moved first p))
    (seen_from first (c.of-image.ensures i)) in
    let sender : sender_of border ≡ of_values mask inside image =
    c.border_of-border.ensures.sender ∙ views
    ∙ (λ i. of_values (unmoved_back mask i) (unmoved inside i) (unmoved_back image i)) in
    subst (λ (s : Sender). AddsOrFails c.args.out.now c.tell.new.out (open_edges s) (room_for_edges s.tiles)
    c.tell.result) sender c.tell.ensures
