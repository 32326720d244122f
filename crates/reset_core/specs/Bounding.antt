-- Bounds outside which nothing open begins.
use Rattle.std.specs.Prelude.{◌≡◌, ◌≢◌, ◌<◌, ◌⊎◌, Bool, List, length}
use Rattle.grid_core.specs.{declared.bounds.Bounds.Bounds, declared.conn.Conn.Conn, declared.pixel.Pixel.Pixel}
use Rattle.grid_core.specs.{declared.rect.Rect.Rect, Bounds.IsInBounds, Bounds.LieIn, Neighbours.AreNeighbours}
use Rattle.grid_core.specs.{Rects.in_image, Tiles.Tiles, Tiles.count_of, Tiles.tile_of}
use Rattle.grid_core.specs.Raster.{Raster, IsInside, value_at}
use Rattle.tile_work.specs.{OpenBounds.AreWidened, OpenBounds.IsWithinItsBounds, OpenBounds.LieInTiles, TileSet.Has}
use Rattle.core_rules.specs.{Image.IsOpen, Invariant.HasHint}
use Rattle.core_rules.specs.Work.{Core, domain, tiling, mask_at, image_at}

-- there are bounds for each tile, which lie in it; and nothing open begins outside them: an open pair, to a pixel of
-- the same tile or of another, begins within the bounds of the tile of its first pixel
pub record AreBounded (core : Core) (bounds : List Bounds) : Type 0 where
  pub count : length bounds ≡ count_of (tiling core)
  pub lie : LieInTiles (tiling core) bounds
  pub begin : (p q : Pixel) → IsOpen (domain core) (mask_at core) (image_at core) p q
      → IsWithinItsBounds (tiling core) bounds p

-- the pixels lie in two tiles, and a hint waits that raises the second as far as the first can
pub record IsTold (core : Core) (p q : Pixel) : Type 0 where
  pub other : tile_of (tiling core) q ≢ tile_of (tiling core) p
  pub hint : HasHint core p q

-- there are bounds for each tile, which lie in it; and an open pair begins within the bounds of the tile of its first
-- pixel, or a hint waits for it
pub record AreBoundedOrTold (core : Core) (bounds : List Bounds) : Type 0 where
  pub count : length bounds ≡ count_of (tiling core)
  pub lie : LieInTiles (tiling core) bounds
  pub begin : (p q : Pixel) → IsOpen (domain core) (mask_at core) (image_at core) p q
      → IsWithinItsBounds (tiling core) bounds p ⊎ IsTold core p q

-- the bounds, counted from a rectangle's upper left corner: they lie in a rectangle of that size, and have within them
-- each pixel that the others have
pub record AreCountedFrom (rect : Rect) (bounds counted : Bounds) : Type 0 where
  pub lie : LieIn counted (record rect { x = 0; y = 0 })
  pub kept : (p : Pixel) → IsInBounds bounds (in_image rect p) → IsInBounds counted p

-- the bounds follow a change of the image: they are widened, a pixel that rises is within those of its tile, and so is
-- one with a neighbour that falls
pub record FollowChange (tiles : Tiles) (conn : Conn) (before after : Raster) (old new : List Bounds) : Type 0 where
  pub widened : AreWidened tiles old new
  pub risen : (p : Pixel) → IsInside tiles.width tiles.height p → value_at before p < value_at after p
      → IsWithinItsBounds tiles new p
  pub fallen : (p q : Pixel) → IsInside tiles.width tiles.height p → IsInside tiles.width tiles.height q
      → AreNeighbours conn p q → value_at after q < value_at before q → IsWithinItsBounds tiles new p

-- so they do, and each pixel of a marked tile is within its bounds
pub record FollowResets (tiles : Tiles) (conn : Conn) (marks : List Bool) (before after : Raster)
    (old new : List Bounds) : Type 0 where
  pub follow : FollowChange tiles conn before after old new
  pub own : (p : Pixel) → IsInside tiles.width tiles.height p → Has marks (tile_of tiles p)
      → IsWithinItsBounds tiles new p
