-- Bands that are put back into the tables that they were cut out of. Only private functions have these words in their
-- contracts.
use Rattle.std.specs.Prelude.{◌≡◌, ◌⊎◌, ℕ, ◌+◌, ◌≤◌, Bool, List, [], ◌∷◌, ◌++◌, length, map}
use Rattle.grid_core.specs.{declared.bounds.Bounds.Bounds}
use Rattle.grid_core.specs.Tiles.{Tiles, IsTiled, count_of, rows_of}
use Rattle.border_queues.specs.TileWork.{TileWork}
use Rattle.tile_work.specs.Cutting.{AreOnlyMarked, EndWithin, HaveGenerationsOf, in_whole}
use Rattle.tile_work.specs.TileSet.{Has}
use Rattle.reset_core.specs.declared.replica.bands.Band.{Band}
use Rattle.reset_core.specs.Bands.{IsBandOf, rows_above, tiles_above}

-- the band fits where it is put back, from this row of tiles on: it is as large as its tiling says, all that can be
-- left to do at its tiles is to sweep them, and their generations are those of the whole
pub record IsFit (tiles : Tiles) (works : List TileWork) (above : ℕ) (band : Band) : Type 0 where
  pub tiled : IsTiled band.tiling
  pub is_band : IsBandOf tiles above band.tiling
  pub within : above + rows_of band.tiling ≤ rows_of tiles
  pub count : length band.work ≡ count_of band.tiling
  pub bounds : length band.bounds ≡ count_of band.tiling
  pub set : length band.swept ≡ count_of band.tiling
  pub only_marks : AreOnlyMarked band.work 0 (length band.work)
  pub generations : HaveGenerationsOf works (tiles_above tiles above) band.work
  pub rows : EndWithin (rows_above tiles above) band.bounds

-- so do bands that stand one below another, from this row of tiles on down to the last
abbrev pub AreFit : Tiles → List TileWork → ℕ → List Band → Type 0
AreFit tiles works above [] = above ≡ rows_of tiles
AreFit tiles works above (band ∷ rest) =
    IsFit tiles works above band × AreFit tiles works (above + rows_of band.tiling) rest

-- tables into which a band can be put back from this row of tiles on: they have a place for each tile, and from there
-- on all that can be left to do is to sweep tiles
pub record CanTake (tiles : Tiles) (above : ℕ) (works : List TileWork) (table : List Bounds) (set : List Bool) : Type 0
  where
    pub tiled : IsTiled tiles
    pub count : length works ≡ count_of tiles
    pub bounds : length table ≡ count_of tiles
    pub set_count : length set ≡ count_of tiles
    pub only_marks : AreOnlyMarked works (tiles_above tiles above) (length works)

-- the tile of the whole is one of the set of a band that begins at this row of tiles
abbrev pub IsInBand : Tiles → ℕ → Band → ℕ → Type 0
IsInBand tiles above band t = (u : ℕ) × (t ≡ tiles_above tiles above + u) × Has band.swept u

-- so it is, of one of some bands that stand one below another
abbrev pub IsInBands : Tiles → ℕ → List Band → ℕ → Type 0
IsInBands tiles above [] t = ⊥
IsInBands tiles above (band ∷ rest) t =
    IsInBand tiles above band t ⊎ IsInBands tiles (above + rows_of band.tiling) rest t

-- the work at the tiles of the bands
abbrev pub works_in : List Band → List TileWork
works_in [] = []
works_in (band ∷ rest) = band.work ++ works_in rest

-- the bounds of those tiles, in the whole
abbrev pub bounds_in : Tiles → ℕ → List Band → List Bounds
bounds_in tiles above [] = []
bounds_in tiles above (band ∷ rest) =
    map (in_whole (rows_above tiles above)) band.bounds ++ bounds_in tiles (above + rows_of band.tiling) rest

-- how many jobs the bands count
abbrev pub jobs_in : List Band → ℕ
jobs_in [] = 0
jobs_in (band ∷ rest) = band.jobs + jobs_in rest
