-- The pixels beside a tile and those on its border, and a patch of the image that has them.
use Rattle.std.specs.Prelude.{◌≡◌, ℕ, ◌+◌, ◌-◌, min}
use Rattle.grid_core.specs.{declared.pixel.Pixel.Pixel, declared.rect.Rect.Rect, Rects.IsInRect}
use Rattle.grid_core.specs.{Raster.Raster, Raster.IsInside, Raster.IsOnBorder, Raster.value_at, Tiles.Tiles}
use Rattle.grid_core.specs.Tiles.{rect_of}
use Rattle.border_queues.specs.OpenEdges.{from_corner}

-- a rectangle grown by one pixel on each side, as far as an image of this width and height goes
abbrev pub widened : ℕ → ℕ → Rect → Rect
widened width height rect = record {
  x = rect.x - 1;
  y = rect.y - 1;
  w = min (rect.x + rect.w + 1) width - (rect.x - 1);
  h = min (rect.y + rect.h + 1) height - (rect.y - 1);
}

-- the rectangle of a tile grown by one pixel on each side, as far as the image goes
abbrev pub around_of : Tiles → ℕ → Rect
around_of tiles t = widened tiles.width tiles.height (rect_of tiles t)

-- the patch has the width and the height of that rectangle
pub record HasAroundSize (tiles : Tiles) (t : ℕ) (patch : Raster) : Type 0 where
  pub width : patch.width ≡ (around_of tiles t).w
  pub height : patch.height ≡ (around_of tiles t).h

-- the value that such a patch has at a pixel of the image
abbrev pub in_patch : Tiles → ℕ → Raster → Pixel → ℕ
in_patch tiles t patch q = value_at patch (from_corner (around_of tiles t) q)

-- two images have the same values beside the tile
abbrev pub AreSameBeside : Tiles → ℕ → (Pixel → ℕ) → (Pixel → ℕ) → Type 0
AreSameBeside tiles t one other =
    (q : Pixel) → IsInside tiles.width tiles.height q → IsInRect (around_of tiles t) q
    → (IsInRect (rect_of tiles t) q → ⊥) → one q ≡ other q

-- two images have the same values on the tile's border: in its first and last column, and in its first and last row
abbrev pub AreSameOnBorder : Tiles → ℕ → (Pixel → ℕ) → (Pixel → ℕ) → Type 0
AreSameOnBorder tiles t one other =
    (p : Pixel) → IsInRect (rect_of tiles t) p
    → IsOnBorder (rect_of tiles t).w (rect_of tiles t).h (from_corner (rect_of tiles t) p) → one p ≡ other p

-- it has the values that the image has beside the tile; those on the tile may be any
pub record IsRingOf (tiles : Tiles) (t : ℕ) (image : Pixel → ℕ) (patch : Raster) : Type 0 where
  pub size : HasAroundSize tiles t patch
  pub values : AreSameBeside tiles t (in_patch tiles t patch) image

-- it has those that the image has beside the tile and on the tile's border; those further in may be any
pub record IsRimmedRingOf (tiles : Tiles) (t : ℕ) (image : Pixel → ℕ) (patch : Raster) : Type 0 where
  pub ring : IsRingOf tiles t image patch
  pub border : AreSameOnBorder tiles t (in_patch tiles t patch) image
