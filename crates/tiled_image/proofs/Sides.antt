-- A copy of the rim of a tile: the values of an image's rim, and the tile's border shown by them.
use Rattle.std.proofs.Common.{◌≡◌, ℕ, ◌+◌, ◌-◌, ◌*◌, ◌<◌, ◌≤◌, List, length, min, slice_index, ap, sym, subst, ◌∙◌}
use Rattle.std.proofs.Common.{arith, inl, inr, refl, le_of_eq, le_trans}
use Rattle.std.proofs.lemmas.Nat.{mul-le}
use Rattle.grid_core.specs.{declared.pixel.Pixel.Pixel, declared.rect.Rect.Rect, Bounds.LieIn, Bounds.bounds_of}
use Rattle.grid_core.specs.Raster.{Raster, value_at}
use Rattle.grid_core.specs.{Rects.IsInRect, Rects.RectFits, Tiles.Tiles, Tiles.IsTiled, Tiles.count_of, Tiles.rect_of}
use Rattle.grid_core.proofs.{Pixels.same_pixel, Tilings.tiles_lie_inside}
use Rattle.border_queues.specs.Around.{around_of, widened}
use Rattle.tile_generations.specs.Rims.{IsRimOf, Rim}
use Rattle.tiled_image.specs.{declared.rims.Edge.Edge, Rims.strip_at, Rims.strip_of, Ring.IsBorderShown, Shown.CanCopy}
use Rattle.tiled_image.specs.declared.rims.Edge.TheVariants as edges
use Rattle.tiled_image.specs.Shown.{IsStripCopied, as_image, cell_in, place_in, value_in}
use Rattle.tiled_image.specs.Sides.{HasSides, HasValues, side_of}
use Rattle.tiled_image.proofs.Places.{in_wider, lies_in_itself}
use Rattle.tiled_image.proofs.RingTiles.{border_fits, in_rect_or_not}
use Rattle.tiled_image.proofs.Strips.{steps, strip_in_tile, tile_strip_lies, tile_strip_some}

-- ---- the rim of an image of a rectangle's size

module _ (rect : Rect) (image : Raster) (rim : Rim) (is_rim : IsRimOf image rim) (width : image.width ≡ rect.w)
    (height : image.height ≡ rect.h) where
  pub rim_sides : HasSides rect rim
  rim_sides edges.Top = omega (arith, is_rim.top.long, width)
  rim_sides edges.Bottom = omega (arith, is_rim.bottom.long, width)
  rim_sides edges.Left = omega (arith, is_rim.left.long, height)
  rim_sides edges.Right = omega (arith, is_rim.right.long, height)

  -- the value at a pixel, which stands at place n of its side, and in the image at q
  value_there : (edge : Edge) (p : Pixel) (n : ℕ) (q : Pixel) → IsInRect (strip_at edge rect) p
      → p.x - (strip_at edge rect).x + (p.y - (strip_at edge rect).y) ≡ n → q ≡ place_in rect p
      → slice_index (side_of edge rim) n ≡ value_at image q
      → cell_in (strip_at edge rect) (side_of edge rim) p ≡ value_in rect image p
  value_there edge p n q inside step same there =
      ap (λ i. slice_index (side_of edge rim) i) (steps edge rect p inside ∙ step) ∙ there
      ∙ ap (λ (r : Pixel). value_at image r) same

  pub rim_values : HasValues rect (value_in rect image) rim
  rim_values edges.Top p inside =
      let n : ℕ = p.x - rect.x in
      let q : Pixel = record { x = n; y = 0 } in
      value_there edges.Top p n q inside (omega (arith, inside.2, inside.3))
      (same_pixel q (place_in rect p) (omega arith) (omega (arith, inside.2, inside.3)))
      (is_rim.top.values n (omega (arith, inside.0, inside.1, width)))
  rim_values edges.Bottom p inside =
      let n : ℕ = p.x - rect.x in
      let q : Pixel = record { x = n; y = image.height - 1 } in
      value_there edges.Bottom p n q inside (omega (arith, inside.2, inside.3))
      (same_pixel q (place_in rect p) (omega arith) (omega (arith, inside.2, inside.3, height)))
      (is_rim.bottom.values n (omega (arith, inside.0, inside.1, width)))
  rim_values edges.Left p inside =
      let n : ℕ = p.y - rect.y in
      let q : Pixel = record { x = 0; y = n } in
      value_there edges.Left p n q inside (omega (arith, inside.0, inside.1))
      (same_pixel q (place_in rect p) (omega (arith, inside.0, inside.1)) (omega arith))
      (is_rim.left.values n (omega (arith, inside.2, inside.3, height)))
  rim_values edges.Right p inside =
      let n : ℕ = p.y - rect.y in
      let q : Pixel = record { x = image.width - 1; y = n } in
      value_there edges.Right p n q inside (omega (arith, inside.0, inside.1))
      (same_pixel q (place_in rect p) (omega (arith, inside.0, inside.1, width)) (omega arith))
      (is_rim.right.values n (omega (arith, inside.2, inside.3, height)))

-- ---- cells that show a strip

-- there are enough of them
pub side_room : (strip own : Rect) (side values : List ℕ) → strip ≡ own → side ≡ values
    → length values ≡ own.w * own.h → strip.w * strip.h ≤ length side
side_room strip own side values strip_is side_is long =
    le_of_eq (ap (λ (r : Rect). r.w * r.h) strip_is ∙ sym long ∙ sym (ap length side_is))

-- they are copied to where they have these values
pub side_copied : (strip own around near : Rect) (side values : List ℕ) (value : Pixel → ℕ) (old new : List ℕ)
    → strip ≡ own → around ≡ near → side ≡ values
    → ((p : Pixel) → IsInRect own p → cell_in own values p ≡ value p)
    → IsStripCopied strip (cell_in strip side) around old new → IsStripCopied own value near old new
side_copied strip own around near side values value old new strip_is around_is side_is same copied =
    let there : IsStripCopied own (cell_in own values) near old new =
    subst (λ (r : Rect). IsStripCopied own (cell_in own values) r old new) around_is
    (subst (λ (xs : List ℕ). IsStripCopied own (cell_in own xs) around old new) side_is
    (subst (λ (r : Rect). IsStripCopied r (cell_in r side) around old new) strip_is copied)) in
    record {
      count = there.count;
      inside = λ p inside. there.inside p inside ∙ same p inside;
      beyond = there.beyond;
    }

-- ---- a tile and the pixels around it

span_lies : (from size limit : ℕ) → from + size ≤ limit
    → (from - 1 ≤ from) × (from + size ≤ from - 1 + (min (from + size + 1) limit - (from - 1)))
span_lies from size limit within = (omega arith, omega (arith, within))

-- a rectangle lies in that which is grown
pub grown_has : (width height : ℕ) (rect : Rect) → RectFits width height rect
    → LieIn (bounds_of rect) (widened width height rect)
grown_has width height rect fits =
    let across = span_lies rect.x rect.w width fits.columns in
    let down = span_lies rect.y rect.h height fits.rows in
    (across.0, across.1, down.0, down.1)

module _ (tiling : Tiles) (tile : ℕ) (tiled : IsTiled tiling) (within : tile < count_of tiling) where
  pub tile_around : LieIn (bounds_of (rect_of tiling tile)) (around_of tiling tile)
  tile_around =
      grown_has tiling.width tiling.height (rect_of tiling tile) (tiles_lie_inside tiling tile tiled within)

  pub strip_around : (edge : Edge) (p : Pixel) → IsInRect (strip_of tiling tile edge) p
      → IsInRect (around_of tiling tile) p
  strip_around edge p inside =
      in_wider (rect_of tiling tile) (around_of tiling tile) p tile_around
      (strip_in_tile tiling tile tiled within edge p inside)

  pub can_fill : (edge : Edge) (side : List ℕ) (count : ℕ)
      → (around_of tiling tile).w * (around_of tiling tile).h ≤ count
      → CanCopy (strip_of tiling tile edge) (as_image (strip_of tiling tile edge) side) (strip_of tiling tile edge)
      (around_of tiling tile) count
  can_fill edge side count room =
      let around = around_of tiling tile in
      let inner = tile_strip_lies tiling tile tiled within edge in
      let outer = tile_around in
      let (some_width, some_height) = tile_strip_some tiling tile tiled within edge in
      let fits : RectFits tiling.width tiling.height around =
      border_fits tiling.width tiling.height (rect_of tiling tile) (tiles_lie_inside tiling tile tiled within) in
      let wide : around.w ≤ tiling.width = omega (arith, fits.columns) in
      let high : around.h ≤ tiling.height = omega (arith, fits.rows) in
      record {
        width = refl;
        height = refl;
        some_width = some_width;
        some_height = some_height;
        lies_from = lies_in_itself (strip_of tiling tile edge);
        lies_to = (
          omega (arith, inner.0, outer.0),
          omega (arith, inner.1, outer.1),
          omega (arith, inner.2, outer.2),
          omega (arith, inner.3, outer.3),
        );
        room = room;
        small = le_trans (mul-le around.w around.h tiling.width tiling.height wide high) tiled.size.pixels_within;
      }

  module _ (value : Pixel → ℕ) where
    -- where a strip is copied, pixels that had these values have them still
    still : (edge : Edge) (old new : List ℕ)
        → IsStripCopied (strip_of tiling tile edge) value (around_of tiling tile) old new → (p : Pixel)
        → IsInRect (around_of tiling tile) p → cell_in (around_of tiling tile) old p ≡ value p
        → cell_in (around_of tiling tile) new p ≡ value p
    still edge old new copied p near was = elim (in_rect_or_not (strip_of tiling tile edge) p) [
      | inl there ↦ copied.inside p there
      | inr elsewhere ↦ copied.beyond p near elsewhere ∙ was
    ]

    -- and those off the tile keep theirs
    off_tile : (edge : Edge) (old new : List ℕ)
        → IsStripCopied (strip_of tiling tile edge) value (around_of tiling tile) old new → (p : Pixel)
        → IsInRect (around_of tiling tile) p → (IsInRect (rect_of tiling tile) p → ⊥)
        → cell_in (around_of tiling tile) new p ≡ cell_in (around_of tiling tile) old p
    off_tile edge old new copied p near outside =
        copied.beyond p near (λ there. outside (strip_in_tile tiling tile tiled within edge p there))

    module _ (start top bottom left end : List ℕ)
        (top_done : IsStripCopied (strip_of tiling tile edges.Top) value (around_of tiling tile) start top)
        (bottom_done : IsStripCopied (strip_of tiling tile edges.Bottom) value (around_of tiling tile) top bottom)
        (left_done : IsStripCopied (strip_of tiling tile edges.Left) value (around_of tiling tile) bottom left)
        (right_done : IsStripCopied (strip_of tiling tile edges.Right) value (around_of tiling tile) left end) where
      by_right : (p : Pixel) → IsInRect (around_of tiling tile) p → cell_in (around_of tiling tile) left p ≡ value p
          → cell_in (around_of tiling tile) end p ≡ value p
      by_right = still edges.Right left end right_done

      by_left : (p : Pixel) → IsInRect (around_of tiling tile) p → cell_in (around_of tiling tile) bottom p ≡ value p
          → cell_in (around_of tiling tile) end p ≡ value p
      by_left p near was = by_right p near (still edges.Left bottom left left_done p near was)

      four_shown : (edge : Edge) (p : Pixel) → IsInRect (strip_of tiling tile edge) p
          → cell_in (around_of tiling tile) end p ≡ value p
      four_shown edges.Top p inside =
          let near = strip_around edges.Top p inside in
          by_left p near (still edges.Bottom top bottom bottom_done p near (top_done.inside p inside))
      four_shown edges.Bottom p inside =
          by_left p (strip_around edges.Bottom p inside) (bottom_done.inside p inside)
      four_shown edges.Left p inside = by_right p (strip_around edges.Left p inside) (left_done.inside p inside)
      four_shown edges.Right p inside = right_done.inside p inside

      pub border_shown : IsBorderShown (rect_of tiling tile) value (around_of tiling tile) start end
      border_shown = record {
        border = four_shown;
        beyond = λ p near outside.
            off_tile edges.Right left end right_done p near outside
            ∙ off_tile edges.Left bottom left left_done p near outside
            ∙ off_tile edges.Bottom top bottom bottom_done p near outside
            ∙ off_tile edges.Top start top top_done p near outside;
      }
