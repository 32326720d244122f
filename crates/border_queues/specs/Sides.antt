-- Values along the sides of a tile: of an image at its pixels there, and of image and mask at the pixels beyond.
use Rattle.std.specs.Prelude.{◌≡◌, ℕ, ◌+◌, ◌-◌, ◌<◌, ◌≤◌, max, min, length, slice_index, List, [], ◌∷◌, flat_map}
use Rattle.std.specs.List.{range_with_len}
use Rattle.grid_core.specs.{declared.pixel.Pixel.Pixel, declared.rect.Rect.Rect, Tiles.Tiles, Tiles.tile_of}
use Rattle.border_queues.specs.declared.{hint.Hint.Hint, sides.Side.Side, sides.Sides.Sides}
use Rattle.border_queues.specs.{OpenEdges.Sender, OpenEdges.hints_to, OpenEdges.open_edges, TileWork.hints_at}

-- there are at least so many values
pub record HasLength (count : ℕ) (side : Side) : Type 0 where
  pub own : count ≤ length side.own.now
  pub risen : count ≤ length side.risen.now
  pub beyond : count ≤ length side.beyond.now
  pub limits : count ≤ length side.limits.now

-- there is a value for each pixel of a side of the rectangle, unless the image ends there
pub record HaveLengths (tiles : Tiles) (rect : Rect) (sides : Sides) : Type 0 where
  pub above : 0 < rect.y → HasLength rect.w sides.above
  pub below : rect.y + rect.h < tiles.height → HasLength rect.w sides.below
  pub left : 0 < rect.x → HasLength rect.h sides.left
  pub right : rect.x + rect.w < tiles.width → HasLength rect.h sides.right

-- so many values are those of the image at the inner pixels, and of image and mask at the outer ones
pub record IsAlong (count : ℕ) (inner outer : ℕ → Pixel) (image mask : Pixel → ℕ) (side : Side) : Type 0 where
  pub own : (i : ℕ) → i < count
      → max (slice_index side.own.now i) (slice_index side.risen.now i) ≡ image (inner i)
  pub beyond : (i : ℕ) → i < count → slice_index side.beyond.now i ≡ image (outer i)
  pub limits : (i : ℕ) → i < count → slice_index side.limits.now i ≡ mask (outer i)

-- how far the pixel of the tile at a place of the side can raise the one beyond it
abbrev pub level_at : Side → ℕ → ℕ
level_at side i =
    min (max (slice_index side.own.now i) (slice_index side.risen.now i)) (slice_index side.limits.now i)

-- none of so many pixels beyond the side can rise
abbrev pub NoneCanRise : Side → ℕ → Type 0
NoneCanRise side count = (i : ℕ) → i < count → level_at side i ≤ slice_index side.beyond.now i

-- the pixel of the column in the row
abbrev pub at : ℕ → ℕ → Pixel
at x y = record { x = x; y = y }

-- the values are those along the sides of the rectangle, unless the image ends there
pub record AreSidesOf (tiles : Tiles) (rect : Rect) (image mask : Pixel → ℕ) (sides : Sides) : Type 0 where
  pub above : 0 < rect.y
      → IsAlong rect.w (λ i. at (rect.x + i) rect.y) (λ i. at (rect.x + i) (rect.y - 1)) image mask sides.above
  pub below : rect.y + rect.h < tiles.height
      → IsAlong rect.w (λ i. at (rect.x + i) (rect.y + rect.h - 1)) (λ i. at (rect.x + i) (rect.y + rect.h)) image mask
      sides.below
  pub left : 0 < rect.x
      → IsAlong rect.h (λ i. at rect.x (rect.y + i)) (λ i. at (rect.x - 1) (rect.y + i)) image mask sides.left
  pub right : rect.x + rect.w < tiles.width
      → IsAlong rect.h (λ i. at (rect.x + rect.w - 1) (rect.y + i)) (λ i. at (rect.x + rect.w) (rect.y + i)) image mask
      sides.right

-- the hints to the pixels beyond a side, of those at so many places of it
abbrev pub hints_along : Sender → ℕ → (ℕ → Pixel) → (ℕ → Pixel) → List Hint
hints_along s count inner outer =
    flat_map (λ i. hints_to s (s.image (inner i)) (outer i ∷ [])) (range_with_len 0 count)

-- the hints of the tile, which has this rectangle, by the tiles that they go to: along each side those for the tile
-- beyond it, and none for others
pub record AreBySides (s : Sender) (rect : Rect) : Type 0 where
  pub above : 0 < rect.y
      → hints_at s.tiles (tile_of s.tiles (at rect.x (rect.y - 1))) (open_edges s)
      ≡ hints_along s rect.w (λ i. at (rect.x + i) rect.y) (λ i. at (rect.x + i) (rect.y - 1))
  pub below : rect.y + rect.h < s.tiles.height
      → hints_at s.tiles (tile_of s.tiles (at rect.x (rect.y + rect.h))) (open_edges s)
      ≡ hints_along s rect.w (λ i. at (rect.x + i) (rect.y + rect.h - 1)) (λ i. at (rect.x + i) (rect.y + rect.h))
  pub left : 0 < rect.x
      → hints_at s.tiles (tile_of s.tiles (at (rect.x - 1) rect.y)) (open_edges s)
      ≡ hints_along s rect.h (λ i. at rect.x (rect.y + i)) (λ i. at (rect.x - 1) (rect.y + i))
  pub right : rect.x + rect.w < s.tiles.width
      → hints_at s.tiles (tile_of s.tiles (at (rect.x + rect.w) rect.y)) (open_edges s)
      ≡ hints_along s rect.h (λ i. at (rect.x + rect.w - 1) (rect.y + i)) (λ i. at (rect.x + rect.w) (rect.y + i))
  pub none : (t : ℕ) → (0 < rect.y → t ≡ tile_of s.tiles (at rect.x (rect.y - 1)) → ⊥)
      → (rect.y + rect.h < s.tiles.height → t ≡ tile_of s.tiles (at rect.x (rect.y + rect.h)) → ⊥)
      → (0 < rect.x → t ≡ tile_of s.tiles (at (rect.x - 1) rect.y) → ⊥)
      → (rect.x + rect.w < s.tiles.width → t ≡ tile_of s.tiles (at (rect.x + rect.w) rect.y) → ⊥)
      → hints_at s.tiles t (open_edges s) ≡ []
