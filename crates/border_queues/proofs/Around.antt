-- Pixels near a tile, and the values that a border's views have there.
use Rattle.std.proofs.Common.{◌≡◌, ℕ, ◌+◌, ◌-◌, ◌<◌, ◌≤◌, ap, sym, ◌∙◌, inl, inr, arith, zero-add, if◌then◌else◌}
use Rattle.std.proofs.Common.{min}
use Rattle.std.proofs.Math.Nat.{sub-zero}
use Rattle.std.proofs.{lemmas.Bool.eq-eqb, lemmas.Bool.Decides.eqb_tells}
use Rattle.grid_core.specs.{declared.conn.Conn.Conn, declared.pixel.Pixel.Pixel, declared.rect.Rect.Rect}
use Rattle.grid_core.specs.{Bounds.LieIn, Bounds.bounds_of, Neighbours.AreNeighbours, Raster.Raster, Raster.IsInside}
use Rattle.grid_core.specs.{Raster.IsImageSize, Raster.value_at, Rects.IsInRect, Rects.RectFits}
use Rattle.grid_core.specs.Tiles.{Tiles, tile_of, rect_of}
use Rattle.border_queues.specs.{declared.border.Border.Border, OpenEdges.IsOnTiling, OpenEdges.from_corner}
use Rattle.border_queues.specs.Around.{HasAroundSize, widened}
use Rattle.border_queues.specs.Borders.{moved, moved_back, seen_from, sender_of, CoversAround, IsBorder, IsNear}
use Rattle.grid_core.proofs.{Pixels.near, Rectangles.in_rect_inside}

-- ---- near a rectangle

-- a neighbour of a pixel of a rectangle is near it
pub near_to_neighbour : (rect : Rect) (conn : Conn) (p q : Pixel) → IsInRect rect p → AreNeighbours conn p q
    → IsNear rect q
near_to_neighbour rect conn p q found beside =
    let close = near conn p q beside in
    record {
      left = omega (arith, close, found);
      right = omega (arith, close, found);
      above = omega (arith, close, found);
      below = omega (arith, close, found);
    }

-- along one side: a place near the `len` places from `first` on lies in these, grown by one place at each end
near_within : (first len width place : ℕ) → place < width → first ≤ place + 1 → place ≤ first + len
    → place < first - 1 + (min (first + len + 1) width - (first - 1))
near_within first len width place inside low high = omega arith

-- and counted from where these begin, it comes before their end
near_counted : (first len width origin size place : ℕ) → origin ≡ first - 1
    → size ≡ min (first + len + 1) width - (first - 1) → place < width → first ≤ place + 1 → place ≤ first + len
    → place - origin < size
near_counted first len width origin size place begins long inside low high = omega arith

-- a pixel of the image near a rectangle lies in the rectangle grown by one pixel on each side
pub near_in_widened : (width height : ℕ) (rect : Rect) (q : Pixel) → IsInside width height q → IsNear rect q
    → IsInRect (widened width height rect) q
near_in_widened width height rect q inside close = (
  omega (arith, close.left),
  near_within rect.x rect.w width q.x inside.0 close.left close.right,
  omega (arith, close.above),
  near_within rect.y rect.h height q.y inside.1 close.above close.below,
)

-- ---- which views have what is near a tile

-- a view of the whole image has it
pub whole_covers : (tiles : Tiles) (rect : Rect) (image : Raster) → IsOnTiling tiles image
    → CoversAround tiles rect (record { x = 0; y = 0 }) image
whole_covers tiles rect image fits q inside close = record {
  column = omega arith;
  row = omega arith;
  inside = (omega (arith, inside, fits.width), omega (arith, inside, fits.height));
}

-- and so has a patch of the size of a tile's rectangle grown by one pixel on each side
pub patch_covers : (tiles : Tiles) (t : ℕ) (rect : Rect) (origin : Pixel) (patch : Raster) → rect ≡ rect_of tiles t
    → origin.x ≡ rect.x - 1 → origin.y ≡ rect.y - 1 → HasAroundSize tiles t patch
    → CoversAround tiles (rect_of tiles t) origin patch
patch_covers tiles t rect origin patch same left top size q inside close =
    let own = rect_of tiles t in
    let at_left : origin.x ≡ own.x - 1 = left ∙ ap (λ (r : Rect). r.x - 1) same in
    let at_top : origin.y ≡ own.y - 1 = top ∙ ap (λ (r : Rect). r.y - 1) same in
    record {
      column = omega (arith, at_left, close.left);
      row = omega (arith, at_top, close.above);
      inside = (
        near_counted own.x own.w tiles.width origin.x patch.width q.x at_left size.width inside.0 close.left
            close.right,
        near_counted own.y own.h tiles.height origin.y patch.height q.y at_top size.height inside.1 close.above
            close.below,
      );
    }

-- ---- values

-- the value of a pixel of the tile stands in `inside`
pub own_value : (b : Border) (p : Pixel) → IsBorder b → IsInRect b.rect p
    → value_at b.inside.now (moved b.corner (from_corner b.rect p)) ≡ (sender_of b).image p
own_value b p border found =
    let inside = in_rect_inside b.tiling.width b.tiling.height b.rect p border.fits found in
    let value : Rect → ℕ = λ rect. value_at b.inside.now (moved b.corner (from_corner rect p)) in
    let beyond = seen_from b.origin b.image.now p in
    ap value border.rect
    ∙ sym (ap (λ t. if t then value (rect_of b.tiling b.tile) else beyond)
    (eq-eqb (tile_of b.tiling p) b.tile ((border.own p inside).0 found)))

-- and that of a pixel of another tile in the view of the image
pub outer_value : (b : Border) (q : Pixel) → IsBorder b → IsInside b.tiling.width b.tiling.height q
    → (IsInRect b.rect q → ⊥) → seen_from b.origin b.image.now q ≡ (sender_of b).image q
outer_value b q border inside outer =
    let own = value_at b.inside.now (moved b.corner (from_corner (rect_of b.tiling b.tile) q)) in
    let beyond = seen_from b.origin b.image.now q in
    elim (eqb_tells (tile_of b.tiling q) b.tile) [
      | inl (passes, same) ↦ absurd (outer ((border.own q inside).1 same))
      | inr (fails, other) ↦ sym (ap (λ t. if t then own else beyond) fails)
    ]

-- what stands from the first pixel on is not moved
pub unmoved : (image : Pixel → ℕ) → (λ (p : Pixel). image (moved (record { x = 0; y = 0 }) p)) ≡ image
unmoved image = λ i p. image (record { x = zero-add p.x i; y = zero-add p.y i })

pub unmoved_back : (image : Pixel → ℕ) → (λ (q : Pixel). image (moved_back (record { x = 0; y = 0 }) q)) ≡ image
unmoved_back image = λ i q. image (record { x = sub-zero q.x i; y = sub-zero q.y i })

-- ---- sizes and bounds, as `border_of` and `Bounds::of` ask for them

-- the first of some places, counted from the one before it
pub counted_back : (first origin own : ℕ) → origin ≡ first - 1 → first ≡ own → first - origin + origin ≡ own
counted_back first origin own begins same = omega arith

-- and those that lie in an image have as many beside one another where they are grown by one place at each end
pub fits_grown : (first len whole origin size own : ℕ) → origin ≡ first - 1 → first ≡ own → own + len ≤ whole
    → size ≡ min (own + len + 1) whole - (own - 1) → first - origin + len ≤ size
fits_grown first len whole origin size own begins same inside long = omega arith

-- the bounds of a rectangle do not reach out of it
pub bounds_lie : (rect : Rect) → LieIn (bounds_of rect) rect
bounds_lie rect = (omega arith, omega arith, omega arith, omega arith)

-- the ends of a rectangle that fits an image are numbers of 32 bits
pub ends_fit : (width height : ℕ) (rect : Rect) → IsImageSize width height → RectFits width height rect
    → (rect.x + rect.w < 4294967296) × (rect.y + rect.h < 4294967296)
ends_fit width height rect size fits = (omega (arith, fits.columns, size), omega (arith, fits.rows, size))
