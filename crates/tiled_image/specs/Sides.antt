-- A copy of the rim of a tile: a list of values for each of the tile's edges.
use Rattle.std.specs.Prelude.{◌≡◌, ℕ, ◌*◌, List, length}
use Rattle.grid_core.specs.{declared.pixel.Pixel.Pixel, declared.rect.Rect.Rect, Rects.IsInRect}
use Rattle.tile_generations.specs.Rims.{Rim}
use Rattle.tiled_image.specs.{declared.rims.Edge.Edge, Rims.strip_at, Shown.cell_in}
use Rattle.tiled_image.specs.declared.rims.Edge.TheVariants as edges

-- the values at an edge
abbrev pub side_of : Edge → Rim → List ℕ
side_of edges.Top rim = rim.top
side_of edges.Bottom rim = rim.bottom
side_of edges.Left rim = rim.left
side_of edges.Right rim = rim.right

-- at each edge there are as many as the rectangle has pixels there
abbrev pub HasSides : Rect → Rim → Type 0
HasSides rect rim = (edge : Edge) → length (side_of edge rim) ≡ (strip_at edge rect).w * (strip_at edge rect).h

-- and they are these at the pixels
abbrev pub HasValues : Rect → (Pixel → ℕ) → Rim → Type 0
HasValues rect value rim =
    (edge : Edge) (p : Pixel) → IsInRect (strip_at edge rect) p
    → cell_in (strip_at edge rect) (side_of edge rim) p ≡ value p
