-- A tile's border, as the private functions walk it.
use Rattle.std.specs.Prelude.{◌≡◌, ℕ, ◌+◌, ◌-◌, ◌≤◌, ◌↔◌, Bool, true, if◌then◌else◌, List, [], flat_map}
use Rattle.grid_core.specs.{declared.conn.Conn.Conn, declared.pixel.Pixel.Pixel, declared.rect.Rect.Rect}
use Rattle.grid_core.specs.{Bounds.LieIn, Raster.Raster, Raster.IsInside, Raster.IsImageSize, Raster.value_at}
use Rattle.grid_core.specs.{Rects.IsInRect, Rects.RectFits, Rows.row_around, Rows.rows_around}
use Rattle.grid_core.specs.Tiles.{Tiles, IsTiled, tile_of, rect_of}
use Rattle.border_queues.specs.{declared.border.Border.Border, declared.hint.Hint.Hint, Waiting.Waiting}
use Rattle.border_queues.specs.OpenEdges.{Sender, EdgesBeginIn, hints_from, hints_to, pixels_of, row_of}
use Rattle.border_queues.specs.OpenEdges.{with_tile}

-- the pixel of `inside` where the tile's pixel stands that is p from the tile's corner
abbrev pub moved : Pixel → Pixel → Pixel
moved corner p = record { x = corner.x + p.x; y = corner.y + p.y }

-- the pixel of a view where the image's pixel q stands, if the view begins at the pixel `origin` of the image
abbrev pub moved_back : Pixel → Pixel → Pixel
moved_back origin q = record { x = q.x - origin.x; y = q.y - origin.y }

-- the value at the image's pixel q in such a view
abbrev pub seen_from : Pixel → Raster → Pixel → ℕ
seen_from origin view q = value_at view (moved_back origin q)

-- the image with the values of `inside` on the tile, and those of a view that begins at `origin` elsewhere
abbrev pub image_by : Tiles → ℕ → Raster → Pixel → Raster → Pixel → Pixel → ℕ
image_by tiles tile inside corner view origin =
    with_tile tiles tile (λ p. value_at inside (moved corner p)) (seen_from origin view)

-- the tile whose border it is
abbrev pub sender_of : Border → Sender
sender_of b = record {
  tiles = b.tiling;
  conn = b.conn;
  mask = seen_from b.origin b.mask.now;
  image = image_by b.tiling b.tile b.inside.now b.corner b.image.now b.origin;
  tile = b.tile;
  generation = b.generation;
}

-- the hints of a pixel of this value to those of these neighbours that it can raise
abbrev pub told_to : Border → ℕ → List Pixel → List Hint
told_to b value qs = hints_to (sender_of b) value qs

-- the three pixels of row y around the column, as far as the row has them, if the row is wanted
abbrev pub row_if : Border → Bool → ℕ → ℕ → List Pixel
row_if b wanted x y = if wanted then row_around b.tiling.width x y true true else []

-- the neighbours of the pixel at x and y
abbrev pub around : Border → Conn → ℕ → ℕ → List Pixel
around b conn x y = rows_around conn b.tiling.width b.tiling.height (record { x = x; y = y })

-- the hints of the open edges from the pixels of a row of the tile
abbrev pub hints_of_row : Border → ℕ → List Hint
hints_of_row b y = flat_map (hints_from (sender_of b)) (row_of b.rect y)

-- and from all pixels of it
abbrev pub hints_of_all : Border → List Hint
hints_of_all b = flat_map (hints_from (sender_of b)) (pixels_of b.rect)

-- the pixel is at most 1 from the rectangle, in columns and in rows
pub record IsNear (rect : Rect) (q : Pixel) : Type 0 where
  pub left : rect.x ≤ q.x + 1
  pub right : q.x ≤ rect.x + rect.w
  pub above : rect.y ≤ q.y + 1
  pub below : q.y ≤ rect.y + rect.h

-- the view, which begins at `origin`, has the image's pixel q
pub record IsInView (origin : Pixel) (view : Raster) (q : Pixel) : Type 0 where
  pub column : origin.x ≤ q.x
  pub row : origin.y ≤ q.y
  pub inside : IsInside view.width view.height (moved_back origin q)

-- it has each pixel of the image in the rectangle and near it
abbrev pub CoversAround : Tiles → Rect → Pixel → Raster → Type 0
CoversAround tiles rect origin view =
    (q : Pixel) → IsInside tiles.width tiles.height q → IsNear rect q → IsInView origin view q

-- what the walk rests on
pub record IsBorder (b : Border) : Type 0 where
  pub tiled : IsTiled b.tiling
  pub rect : b.rect ≡ rect_of b.tiling b.tile
  pub mask : CoversAround b.tiling b.rect b.origin b.mask.now
  pub image : CoversAround b.tiling b.rect b.origin b.image.now
  pub inside : IsImageSize b.inside.now.width b.inside.now.height
  pub inside_columns : b.corner.x + b.rect.w ≤ b.inside.now.width
  pub inside_rows : b.corner.y + b.rect.h ≤ b.inside.now.height
  pub fits : RectFits b.tiling.width b.tiling.height b.rect
  pub own : (p : Pixel) → IsInside b.tiling.width b.tiling.height p → IsInRect b.rect p ↔ (tile_of b.tiling p ≡ b.tile)
  pub lie : LieIn b.bounds b.rect
  pub begin : EdgesBeginIn (sender_of b) b.bounds

-- the walk can go on, with room for so many hints
pub record CanTell (b : Border) (inbox : Waiting) (hints : ℕ) : Type 0 where
  pub border : IsBorder b
  pub room : hints ≤ inbox.room
