-- Laws of images, as statements. Public functions have them as their contracts.
use Rattle.std.specs.Prelude.{◌≡◌, ◌≢◌, ◌≤◌, ◌↔◌, ℕ, Contains}
use Rattle.grid_core.specs.{declared.conn.Conn.Conn, declared.pixel.Pixel.Pixel, Rows.rows_around}
use Rattle.grid_core.specs.Raster.{Raster, IsInside, IsFilled, IsBelow, value_at, with_value}
use Rattle.grid_core.specs.Neighbours.{AreNeighbours, IsInRasterOrder}

-- a new value at a pixel is read back there
abbrev pub SetIsRead : Type 0
SetIsRead =
    (r : Raster) (p : Pixel) (v : ℕ) → IsFilled r → IsInside r.width r.height p → value_at (with_value r p v) p ≡ v

-- a new value at a pixel leaves every other pixel as it was
abbrev pub SetKeepsOthers : Type 0
SetKeepsOthers =
    (r : Raster) (p q : Pixel) (v : ℕ) → IsInside r.width r.height p → IsInside r.width r.height q → q ≢ p
    → value_at (with_value r p v) q ≡ value_at r q

-- images of one size with equal values at each pixel are equal
abbrev pub EqualPixelsEqualImages : Type 0
EqualPixelsEqualImages =
    (r s : Raster) → IsFilled r → IsFilled s → r.width ≡ s.width → r.height ≡ s.height
    → ((p : Pixel) → IsInside r.width r.height p → value_at r p ≡ value_at s p) → r ≡ s

-- an image below another is below it at each pixel
abbrev pub BelowAtEachPixel : Type 0
BelowAtEachPixel =
    (r s : Raster) → IsFilled r → IsBelow r s → (p : Pixel) → IsInside r.width r.height p → value_at r p ≤ value_at s p

-- an image of the same size that is below at each pixel is below
abbrev pub EachPixelBelow : Type 0
EachPixelBelow =
    (r s : Raster) → IsFilled r → r.width ≡ s.width → r.height ≡ s.height
    → ((p : Pixel) → IsInside r.width r.height p → value_at r p ≤ value_at s p) → IsBelow r s

-- the rows around a pixel are its neighbours in the image, in raster order
abbrev pub NeighboursByRows : Type 0
NeighboursByRows =
    (conn : Conn) (width height : ℕ) (p : Pixel) → IsInside width height p
    → ((q : Pixel) → Contains (rows_around conn width height p) q ↔ (AreNeighbours conn p q × IsInside width height q))
    × IsInRasterOrder (rows_around conn width height p)

-- images are known by their values at pixels
pub record PixelLaws : Type 0 where
  pub set_is_read : SetIsRead
  pub set_keeps_others : SetKeepsOthers
  pub below_at_each_pixel : BelowAtEachPixel
  pub each_pixel_below : EachPixelBelow
