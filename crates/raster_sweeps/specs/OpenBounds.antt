-- Rectangles of which, but for the pixels within some bounds, nothing is left to grow. The bounds are counted in the
-- image. Public functions have these words in their contracts, but for the last.
use Rattle.std.specs.Prelude.{◌≢◌, ◌⊎◌, Option, IfSome}
use Rattle.grid_core.specs.{declared.bounds.Bounds.Bounds, declared.conn.Conn.Conn, declared.pixel.Pixel.Pixel}
use Rattle.grid_core.specs.{declared.rect.Rect.Rect, Bounds.IsInBounds, Bounds.LieIn, Raster.Raster, Raster.value_at}
use Rattle.grid_core.specs.{Rects.IsInRect, Rects.in_image}
use Rattle.raster_sweeps.specs.Growth.{IsClosedIn, IsGrown, IsOpenIn}

-- each open pair of the rectangle has its first pixel within the bounds
abbrev pub OpenPairsBeginIn : Conn → Rect → Raster → Raster → Bounds → Type 0
OpenPairsBeginIn conn rect mask image bounds =
    (p q : Pixel) → IsOpenIn conn rect mask image p q → IsInBounds bounds (in_image rect p)

-- within the new bounds lie the pixels of the rectangle that lie within the old ones, and those that have risen
abbrev pub RiseWithin : Rect → Raster → Raster → Bounds → Bounds → Type 0
RiseWithin rect before after old new =
    (p : Pixel) → IsInRect rect p → IsInBounds old p ⊎ (value_at after p ≢ value_at before p) → IsInBounds new p

-- the image has grown inside the rectangle; where there are new bounds, no pixel there can raise a neighbour, and these
-- bounds lie in it, with the old ones and each pixel that has risen within them
pub record IsRaisedFrom (conn : Conn) (rect : Rect) (mask before after : Raster) (old : Bounds) (new : Option Bounds)
    : Type 0 where
  pub grown : IsGrown conn rect mask before after
  pub closed : IfSome new (λ bounds. IsClosedIn conn rect mask after)
  pub rises : IfSome new (λ bounds. RiseWithin rect before after old bounds)
  pub lie : IfSome new (λ bounds. LieIn bounds rect)
