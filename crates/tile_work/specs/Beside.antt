-- The tiles at and around one: where a pixel's tile stands among them, and how many hints come to each.
use Rattle.std.specs.Prelude.{◌≡◌, ℕ, ◌+◌, ◌-◌, ◌*◌, ◌<◌, ◌≤◌, List, length, slice_index, All}
use Rattle.grid_core.specs.{declared.pixel.Pixel.Pixel, Raster.IsInside, Neighbours.apart}
use Rattle.grid_core.specs.Tiles.{Tiles, IsTiled, columns_of, count_of, column_of, row_of, tile_of, rect_of}
use Rattle.border_queues.specs.{declared.hint.Hint.Hint, TileWork.hints_at}
use Rattle.tile_work.specs.declared.work_table.{beside.TilesBeside.TilesBeside, delivery.Coming.Coming}

-- the pixel lies in this tile or in one that touches it
pub record IsPixelNear (tiles : Tiles) (tile : ℕ) (p : Pixel) : Type 0 where
  pub inside : IsInside tiles.width tiles.height p
  pub columns : apart (column_of tiles tile) (column_of tiles (tile_of tiles p)) ≤ 1
  pub rows : apart (row_of tiles tile) (row_of tiles (tile_of tiles p)) ≤ 1

-- what is stored of a tile is what it has in its tiling
pub record IsBeside (b : TilesBeside) : Type 0 where
  pub tiled : IsTiled b.tiling
  pub within : b.tile < count_of b.tiling
  pub columns_are : b.columns ≡ columns_of b.tiling
  pub rect_is : b.rect ≡ rect_of b.tiling b.tile

-- the place of a tile among the nine at and around another one, row by row
abbrev pub place_among : Tiles → ℕ → ℕ → ℕ
place_among tiles tile t =
    3 * (row_of tiles t + 1 - row_of tiles tile) + (column_of tiles t + 1 - column_of tiles tile)

-- each tile that a hint goes to stands at one of the places, with the number of the hints that go to it
pub record AreCounted (tiles : Tiles) (hints : List Hint) (coming : Coming) : Type 0 where
  pub places : length coming.tiles ≤ length coming.counts
  pub within : All (λ t. t < count_of tiles) coming.tiles
  pub counted : (t : ℕ) → 0 < length (hints_at tiles t hints)
      → (k : ℕ) × (k < length coming.tiles) × (slice_index coming.tiles k ≡ t)
      × (slice_index coming.counts k ≡ length (hints_at tiles t hints))
