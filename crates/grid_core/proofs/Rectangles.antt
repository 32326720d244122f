-- The pixels of a rectangle, counted from its upper left corner.
use Rattle.std.proofs.Common.{◌≡◌, ℕ, ◌-◌, ap, arith, ◌↔◌}
use Rattle.grid_core.specs.{declared.pixel.Pixel.Pixel, declared.rect.Rect.Rect, Raster.IsInside}
use Rattle.grid_core.specs.Rects.{IsInRect, RectFits, in_image}
use Rattle.grid_core.proofs.Pixels.{same_pixel}

pub rect_pixels_lie_in_rect : (rect : Rect) (q : Pixel)
    → IsInRect rect q ↔ ((p : Pixel) × IsInside rect.w rect.h p × (in_image rect p ≡ q))
rect_pixels_lie_in_rect rect q = (
  λ found.
      let p : Pixel = record { x = q.x - rect.x; y = q.y - rect.y } in
      (p, (omega arith, omega arith), same_pixel (in_image rect p) q (omega (arith, found)) (omega (arith, found))),
  λ (p, inside, same).
      let column = ap (λ (r : Pixel). r.x) same in
      let row = ap (λ (r : Pixel). r.y) same in
      (omega (arith, column), omega (arith, column, inside), omega (arith, row), omega (arith, row, inside)),
)

-- a pixel of a rectangle that fits an image is one of the image
pub in_rect_inside : (width height : ℕ) (rect : Rect) (q : Pixel) → RectFits width height rect → IsInRect rect q
    → IsInside width height q
in_rect_inside width height rect q fits found = (omega (arith, found, fits.columns), omega (arith, found, fits.rows))
