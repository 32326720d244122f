-- Rectangles of tiles. Only private functions have these words in their contracts.
use Rattle.std.specs.Prelude.{◌≡◌, ℕ, ◌+◌, ◌<◌, ◌≤◌, ◌⊎◌, List, length, slice_index, ◌↔◌, Contains}
use Rattle.grid_core.specs.{declared.pixel.Pixel.Pixel, declared.rect.Rect.Rect, Rects.IsInRect}
use Rattle.grid_core.specs.Tiles.{Tiles, rect_of}
use Rattle.page_board.specs.Changes.{IsCovered, AllFit, AreApart}

-- some tile below the number has a step after this one, and the pixel lies in its rectangle
pub record IsInTileSince (tiles : Tiles) (shown : List ℕ) (since count : ℕ) (p : Pixel) : Type 0 where
  pub t : ℕ
  pub below : t < count
  pub later : since < slice_index shown t
  pub within : IsInRect (rect_of tiles t) p

-- the first rectangle ends where the second one begins, or before: above it, or left of it, with the same rows
abbrev pub EndsBefore : Rect → Rect → Type 0
EndsBefore left right =
    (left.y + left.h ≤ right.y) ⊎ (left.y ≡ right.y) × (left.h ≡ right.h) × (left.x + left.w ≤ right.x)

-- so does each of the rectangles
abbrev pub AllEndBefore : List Rect → Rect → Type 0
AllEndBefore rects next = (rect : Rect) → Contains rects rect → EndsBefore rect next

-- the second rectangle stands right of the first, with the same rows
pub record IsContinued (left right : Rect) : Type 0 where
  pub top : left.y ≡ right.y
  pub rows : left.h ≡ right.h
  pub beside : left.x + left.w ≡ right.x

-- the rectangles fit the image, cover the tiles below the number that have a step after this one, are apart, and end
-- before the tile of the number
pub record AreStripsTo (tiles : Tiles) (shown : List ℕ) (since count : ℕ) (rects : List Rect) : Type 0 where
  pub fit : AllFit tiles.width tiles.height rects
  pub cover : (p : Pixel) → IsCovered rects p ↔ IsInTileSince tiles shown since count p
  pub apart : AreApart rects
  pub ends : AllEndBefore rects (rect_of tiles count)

abbrev pub AreStrips : Tiles → List ℕ → ℕ → List Rect → Type 0
AreStrips tiles shown since rects = AreStripsTo tiles shown since (length shown) rects

-- both rectangles as one
abbrev pub joined : Rect → Rect → Rect
joined left right = record { x = left.x; y = left.y; w = left.w + right.w; h = left.h }

-- the new rectangles fit, and cover what the old ones and the added one do; and if the old ones are apart and end
-- before the added one, then the new ones are apart, and end before whatever the added one ends before
pub record IsAdded (tiles : Tiles) (old : List Rect) (rect : Rect) (new : List Rect) : Type 0 where
  pub fit : AllFit tiles.width tiles.height new
  pub cover : (p : Pixel) → IsCovered new p ↔ (IsCovered old p ⊎ IsInRect rect p)
  pub apart : AreApart old → AllEndBefore old rect → AreApart new
  pub ends : (next : Rect) → AllEndBefore old rect → EndsBefore rect next → AllEndBefore new next
