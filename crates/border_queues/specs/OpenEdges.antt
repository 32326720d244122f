-- Open edges of a tile: pairs of neighbouring pixels across its border whose outer pixel can still rise.
use Rattle.std.specs.Prelude.{◌≡◌, ◌≢◌, ℕ, ◌-◌, ◌*◌, ◌<◌, Bool, ◌&&◌, not, nat_eq, nat_lt, if◌then◌else◌, min, List}
use Rattle.std.specs.Prelude.{map, filter, flat_map}
use Rattle.std.specs.List.{range_with_len}
use Rattle.grid_core.specs.{declared.bounds.Bounds.Bounds, declared.conn.Conn.Conn, declared.pixel.Pixel.Pixel}
use Rattle.grid_core.specs.{declared.rect.Rect.Rect, Bounds.IsInBounds, Neighbours.AreNeighbours, Rows.rows_around}
use Rattle.grid_core.specs.Raster.{Raster, IsInside}
use Rattle.grid_core.specs.Tiles.{Tiles, count_of, tile_of, rect_of}
use Rattle.border_queues.specs.declared.hint.Hint.{Hint}

-- the image has the tiling's width and height
pub record IsOnTiling (tiles : Tiles) (image : Raster) : Type 0 where
  pub width : image.width ≡ tiles.width
  pub height : image.height ≡ tiles.height

-- image and mask have the tiling's width and height, and it has the tile
pub record HaveTile (tiles : Tiles) (image mask : Raster) (t : ℕ) : Type 0 where
  pub tile : t < count_of tiles
  pub image_fits : IsOnTiling tiles image
  pub mask_fits : IsOnTiling tiles mask

-- the image has the width and the height of the tile
pub record HasTileSize (tiles : Tiles) (t : ℕ) (image : Raster) : Type 0 where
  pub width : image.width ≡ (rect_of tiles t).w
  pub height : image.height ≡ (rect_of tiles t).h

-- a tile that tells others: the tiling, which pixels are neighbours, mask and image, the tile and its generation
pub record Sender : Type 0 where
  pub tiles : Tiles
  pub conn : Conn
  pub mask : Pixel → ℕ
  pub image : Pixel → ℕ
  pub tile : ℕ
  pub generation : ℕ

-- the tile as a sender, by these images
abbrev pub sender_by : Tiles → Conn → (Pixel → ℕ) → (Pixel → ℕ) → ℕ → ℕ → Sender
sender_by tiles conn mask image tile generation = record {
  tiles = tiles;
  conn = conn;
  mask = mask;
  image = image;
  tile = tile;
  generation = generation;
}

-- how far a pixel of this value can raise q under the mask
abbrev pub level_to : Sender → ℕ → Pixel → ℕ
level_to s value q = min value (s.mask q)

-- an open edge: p in the tile, q a neighbour of it in another tile, lower than p can raise it
pub record IsOpenEdge (s : Sender) (p q : Pixel) : Type 0 where
  pub from_inside : IsInside s.tiles.width s.tiles.height p
  pub from_tile : tile_of s.tiles p ≡ s.tile
  pub to_inside : IsInside s.tiles.width s.tiles.height q
  pub to_other : tile_of s.tiles q ≢ s.tile
  pub beside : AreNeighbours s.conn p q
  pub lower : s.image q < level_to s (s.image p) q

-- each open edge begins within the bounds
abbrev pub EdgesBeginIn : Sender → Bounds → Type 0
EdgesBeginIn s bounds = (p q : Pixel) → IsOpenEdge s p q → IsInBounds bounds p

-- the hint to q of a pixel of this value
abbrev pub hint_to : Sender → ℕ → Pixel → Hint
hint_to s value q =
    record { from = s.tile; from_generation = s.generation; to_pixel = q; value = level_to s value q }

-- whether q lies in another tile, and a pixel of this value can raise it
abbrev pub is_open : Sender → ℕ → Pixel → Bool
is_open s value q = not (nat_eq (tile_of s.tiles q) s.tile) && nat_lt (s.image q) (level_to s value q)

-- the hints of a pixel of this value to those of its neighbours that it can raise
abbrev pub hints_to : Sender → ℕ → List Pixel → List Hint
hints_to s value qs = map (hint_to s value) (filter (is_open s value) qs)

-- the hints of the open edges from p, in raster order
abbrev pub hints_from : Sender → Pixel → List Hint
hints_from s p = hints_to s (s.image p) (rows_around s.conn s.tiles.width s.tiles.height p)

-- the pixels of row y of a rectangle, from the left
abbrev pub row_of : Rect → ℕ → List Pixel
row_of rect y = map (λ x. record { x = x; y = y }) (range_with_len rect.x rect.w)

-- the pixels of a rectangle, in raster order
abbrev pub pixels_of : Rect → List Pixel
pixels_of rect = flat_map (row_of rect) (range_with_len rect.y rect.h)

-- the hints of a tile's open edges, in raster order of the inner and then of the outer pixel
abbrev pub open_edges : Sender → List Hint
open_edges s = flat_map (hints_from s) (pixels_of (rect_of s.tiles s.tile))

-- a pixel of the image, counted from a rectangle's upper left corner
abbrev pub from_corner : Rect → Pixel → Pixel
from_corner rect p = record { x = p.x - rect.x; y = p.y - rect.y }

-- the image with the values of `inside` on the tile, counted from its upper left corner, and its own elsewhere
abbrev pub with_tile : Tiles → ℕ → (Pixel → ℕ) → (Pixel → ℕ) → Pixel → ℕ
with_tile tiles tile inside image p =
    if nat_eq (tile_of tiles p) tile then inside (from_corner (rect_of tiles tile) p) else image p

-- the room for a tile's hints: eight from each pixel of a whole tile's border
abbrev pub room_for_edges : Tiles → ℕ
room_for_edges tiles = 32 * tiles.side
