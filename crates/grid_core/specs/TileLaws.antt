-- Laws of tiles and rectangles, as statements. Public functions have them as their contracts.
use Rattle.std.specs.Prelude.{◌≡◌, ℕ, ◌<◌, ◌⊎◌, ◌↔◌}
use Rattle.grid_core.specs.{declared.conn.Conn.Conn, declared.pixel.Pixel.Pixel, declared.rect.Rect.Rect}
use Rattle.grid_core.specs.{Raster.IsInside, Neighbours.AreNeighbours, Rects.IsInRect, Rects.RectFits, Rects.in_image}
use Rattle.grid_core.specs.Tiles.{Tiles, IsTiled, AreTouching, count_of, tile_of, rect_of}

-- each pixel of the image lies in the rectangle of its tile and of no other
abbrev pub EachPixelInOneTile : Type 0
EachPixelInOneTile =
    (t : Tiles) (p : Pixel) → IsTiled t → IsInside t.width t.height p
    → (tile_of t p < count_of t)
    × ((tile : ℕ) → tile < count_of t → IsInRect (rect_of t tile) p ↔ (tile_of t p ≡ tile))

-- each tile has a pixel, and lies in the image
abbrev pub TilesLieInside : Type 0
TilesLieInside = (t : Tiles) (tile : ℕ) → IsTiled t → tile < count_of t → RectFits t.width t.height (rect_of t tile)

-- two neighbouring pixels lie in one tile or in tiles that touch
abbrev pub NeighboursLieInTouchingTiles : Type 0
NeighboursLieInTouchingTiles =
    (t : Tiles) (conn : Conn) (p q : Pixel) → IsTiled t → IsInside t.width t.height p → IsInside t.width t.height q
    → AreNeighbours conn p q → (tile_of t p ≡ tile_of t q) ⊎ AreTouching t (tile_of t p) (tile_of t q)

-- the pixels of a rectangle are those of the image that lie in it
abbrev pub RectPixelsLieInRect : Type 0
RectPixelsLieInRect =
    (rect : Rect) (q : Pixel) → IsInRect rect q ↔ ((p : Pixel) × IsInside rect.w rect.h p × (in_image rect p ≡ q))

-- the pixels of a tile's rectangle are those of the image that lie in the tile
abbrev pub TilePixels : Type 0
TilePixels =
    (t : Tiles) (tile : ℕ) (q : Pixel) → IsTiled t → tile < count_of t
    → (IsInside t.width t.height q × (tile_of t q ≡ tile))
    ↔ ((p : Pixel) × IsInside (rect_of t tile).w (rect_of t tile).h p × (in_image (rect_of t tile) p ≡ q))

-- pixels of a rectangle are neighbours in it where they are neighbours in the image
abbrev pub NeighboursInRect : Type 0
NeighboursInRect =
    (rect : Rect) (conn : Conn) (p q : Pixel)
    → AreNeighbours conn p q ↔ AreNeighbours conn (in_image rect p) (in_image rect q)

-- a pixel of a rectangle that fits an image is one of the image
abbrev pub RectPixelsLieInside : Type 0
RectPixelsLieInside =
    (width height : ℕ) (rect : Rect) (p : Pixel) → RectFits width height rect → IsInside rect.w rect.h p
    → IsInside width height (in_image rect p)

-- what is so in the rectangle is so in the image
pub record RectLaws : Type 0 where
  pub rect_pixels_lie_inside : RectPixelsLieInside
  pub tile_pixels : TilePixels
  pub neighbours_in_rect : NeighboursInRect
