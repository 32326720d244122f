-- What lies along the edges of a tile, and beyond them.
use Rattle.std.specs.Prelude.{◌≡◌, ℕ, ◌+◌, ◌-◌, ◌<◌}
use Rattle.grid_core.specs.{declared.pixel.Pixel.Pixel, declared.rect.Rect.Rect}
use Rattle.grid_core.specs.{Raster.Raster, Raster.IsInside, Raster.value_at, Rects.IsInRect, Tiles.Tiles, Tiles.rect_of}
use Rattle.border_queues.specs.{declared.sides.Side.Side, Sides.HasLength, Sides.IsAlong}
use Rattle.tiled_image.specs.{declared.rims.Edge.Edge, Raising.greater_of, Rims.strip_of}
use Rattle.tiled_image.specs.declared.rims.Edge.TheVariants as edges

-- the edge on the other side
abbrev pub opposite : Edge → Edge
opposite edges.Top = edges.Bottom
opposite edges.Bottom = edges.Top
opposite edges.Left = edges.Right
opposite edges.Right = edges.Left

-- the image goes on beyond this edge of a rectangle
abbrev pub GoesOn : Tiles → Rect → Edge → Type 0
GoesOn tiling rect edges.Top = 0 < rect.y
GoesOn tiling rect edges.Bottom = rect.y + rect.h < tiling.height
GoesOn tiling rect edges.Left = 0 < rect.x
GoesOn tiling rect edges.Right = rect.x + rect.w < tiling.width

-- how many pixels the rectangle has at this edge
abbrev pub long_at : Rect → Edge → ℕ
long_at rect edges.Top = rect.w
long_at rect edges.Bottom = rect.w
long_at rect edges.Left = rect.h
long_at rect edges.Right = rect.h

-- its pixel at a place of this edge, counted from the left or from the top
abbrev pub inner_at : Rect → Edge → ℕ → Pixel
inner_at rect edges.Top i = record { x = rect.x + i; y = rect.y }
inner_at rect edges.Bottom i = record { x = rect.x + i; y = rect.y + rect.h - 1 }
inner_at rect edges.Left i = record { x = rect.x; y = rect.y + i }
inner_at rect edges.Right i = record { x = rect.x + rect.w - 1; y = rect.y + i }

-- the pixel beyond that one
abbrev pub outer_at : Rect → Edge → ℕ → Pixel
outer_at rect edges.Top i = record { x = rect.x + i; y = rect.y - 1 }
outer_at rect edges.Bottom i = record { x = rect.x + i; y = rect.y + rect.h }
outer_at rect edges.Left i = record { x = rect.x - 1; y = rect.y + i }
outer_at rect edges.Right i = record { x = rect.x + rect.w; y = rect.y + i }

-- the first of the pixels beyond an edge
abbrev pub first_beyond : Rect → Edge → Pixel
first_beyond rect edges.Top = record { x = rect.x; y = rect.y - 1 }
first_beyond rect edges.Bottom = record { x = rect.x; y = rect.y + rect.h }
first_beyond rect edges.Left = record { x = rect.x - 1; y = rect.y }
first_beyond rect edges.Right = record { x = rect.x + rect.w; y = rect.y }

-- the image goes on there, and this is the first pixel
pub record IsFirstBeyond (tiling : Tiles) (rect : Rect) (edge : Edge) (q : Pixel) : Type 0 where
  pub on : GoesOn tiling rect edge
  pub is : q ≡ first_beyond rect edge

-- these values have the whole image's at its pixels that do not lie in the tile
abbrev pub IsSameBeyond : Tiles → ℕ → Raster → (Pixel → ℕ) → Type 0
IsSameBeyond tiling tile whole image =
    (q : Pixel) → IsInside tiling.width tiling.height q → (IsInRect (rect_of tiling tile) q → ⊥)
    → image q ≡ value_at whole q

-- on the rim of the tile, these values are the greater of the whole image's and of the other ones
abbrev pub IsRaisedOnRim : Tiles → ℕ → Raster → (Pixel → ℕ) → (Pixel → ℕ) → Type 0
IsRaisedOnRim tiling tile whole value image =
    (edge : Edge) (p : Pixel) → IsInRect (strip_of tiling tile edge) p → image p ≡ greater_of whole value p

-- where the image goes on, there is a value for each pixel at this edge of the tile
abbrev pub HasLengthAt : Tiles → ℕ → Edge → Side → Type 0
HasLengthAt tiling tile edge side =
    GoesOn tiling (rect_of tiling tile) edge → HasLength (long_at (rect_of tiling tile) edge) side

-- and the values are the image's and the mask's along this edge
abbrev pub IsAlongAt : Tiles → ℕ → Edge → (Pixel → ℕ) → Raster → Side → Type 0
IsAlongAt tiling tile edge image mask side =
    GoesOn tiling (rect_of tiling tile) edge
    → IsAlong (long_at (rect_of tiling tile) edge) (inner_at (rect_of tiling tile) edge)
    (outer_at (rect_of tiling tile) edge) image (value_at mask) side
