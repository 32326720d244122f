-- Rows of tiles of a core, taken as an image by themselves. Only private functions have these words in their contracts.
use Rattle.std.specs.Prelude.{◌≡◌, ℕ, zero, suc, ◌+◌, ◌*◌, ◌%◌, ◌^◌, ◌<◌, ◌≤◌, ◌⊎◌, List, [], ◌∷◌, ◌++◌, map, length}
use Rattle.std.specs.Prelude.{slice_set, Bool, Contains}
use Rattle.grid_core.specs.{declared.bounds.Bounds.Bounds, declared.pixel.Pixel.Pixel, declared.rect.Rect.Rect}
use Rattle.grid_core.specs.{Bounds.no_bounds, Raster.Raster}
use Rattle.grid_core.specs.Tiles.{Tiles, IsTiled, columns_of, rows_of, count_of, row_of}
use Rattle.grid_core.specs.Raster.{IsFilled, IsInside}
use Rattle.border_queues.specs.{declared.hint.Hint.Hint, TileWork.TileWork}
use Rattle.core_rules.specs.Work.{Core, tiling, mask_at}
use Rattle.core_rules.specs.{Sweeps.hints_of, Counting.merges_of, Invariant.IsSound}
use Rattle.core_rules.specs.Runs.{Entry, IsRun, IsDirty, tiles_taken, abandons_of}
use Rattle.tile_work.specs.TileSet.{HasGained}
use Rattle.reset_core.specs.{Bounding.AreBounded, Bounding.FollowChange, Settling.HasOnlySweeps}
use Rattle.reset_core.specs.Telling.{ImageAndWork, image_and_work, with_image_and_work, burden, AreTold, IsGrownAt}
use Rattle.reset_core.specs.Telling.{grown_core}

-- the tiling is that of some rows of tiles of the whole one, above which so many rows of tiles stand
pub record IsBandOf (whole : Tiles) (above : ℕ) (band : Tiles) : Type 0 where
  pub width : band.width ≡ whole.width
  pub side : band.side ≡ whole.side
  pub within : above * whole.side + band.height ≤ whole.height
  pub ends : (above * whole.side + band.height ≡ whole.height) ⊎ ((rows : ℕ) × (band.height ≡ rows * whole.side))

-- how many rows of pixels and how many tiles stand above so many rows of tiles
abbrev pub rows_above : Tiles → ℕ → ℕ
rows_above whole above = above * whole.side

abbrev pub tiles_above : Tiles → ℕ → ℕ
tiles_above whole above = above * columns_of whole

-- so many rows further down
abbrev pub lowered : ℕ → Pixel → Pixel
lowered rows p = record { x = p.x; y = rows + p.y }

abbrev pub lowered_rect : ℕ → Rect → Rect
lowered_rect rows rect = record { x = rect.x; y = rows + rect.y; w = rect.w; h = rect.h }

-- the hint of a band as one of the whole
abbrev pub lowered_hint : Tiles → ℕ → Hint → Hint
lowered_hint whole above hint = record {
  from = tiles_above whole above + hint.from;
  from_generation = hint.from_generation;
  to_pixel = lowered (rows_above whole above) hint.to_pixel;
  value = hint.value;
}

-- each tile that touches this one of the whole lies in the band too: where other rows of tiles stand above the band,
-- the
-- tile is not in its first row, and where some stand below it, not in its last
pub record IsInner (whole : Tiles) (above : ℕ) (band : Tiles) (t : ℕ) : Type 0 where
  pub within : t < count_of band
  pub top : (above ≡ 0) ⊎ (0 < row_of band t)
  pub bottom : (above * whole.side + band.height ≡ whole.height) ⊎ (row_of band t + 1 < rows_of band)

-- ---- the whole, with a band put in

-- an image, and the work that is left at its tiles, but for those of a band
pub record Around : Type 0 where
  pub width : ℕ
  pub height : ℕ
  pub cells_above : List ℕ
  pub cells_below : List ℕ
  pub works_above : List TileWork
  pub works_below : List TileWork

-- all of it, where the band is this one
abbrev pub put_in : Around → ImageAndWork → ImageAndWork
put_in around s = record {
  image = record {
    width = around.width;
    height = around.height;
    cells = around.cells_above ++ (s.image.cells ++ around.cells_below);
  };
  rows = around.works_above ++ (s.rows ++ around.works_below);
}

-- the band is as large as the tilings say, and what lies above it, too
pub record FitsIn (whole : Tiles) (above : ℕ) (band : Tiles) (around : Around) (s : ImageAndWork) : Type 0 where
  pub width : around.width ≡ whole.width
  pub height : around.height ≡ whole.height
  pub cells_above : length around.cells_above ≡ rows_above whole above * whole.width
  pub works_above : length around.works_above ≡ tiles_above whole above
  pub band_width : s.image.width ≡ band.width
  pub band_height : s.image.height ≡ band.height
  pub filled : IsFilled s.image
  pub works : length s.rows ≡ count_of band

-- ---- cores

-- the second core, as plain data, is what stands in the first one where it says: rows of tiles with their mask, image
-- and work; its strokes and serial count for nothing
pub record IsBandIn (whole : Core) (above : ℕ) (band : Core) (around : Around) : Type 0 where
  pub tiles : IsBandOf (tiling whole) above (tiling band)
  pub conn : band.conn ≡ whole.conn
  pub mask : (p : Pixel) → IsInside band.mask.width band.mask.height p
      → mask_at whole (lowered (rows_above (tiling whole) above) p) ≡ mask_at band p
  pub parts : image_and_work whole ≡ put_in around (image_and_work band)
  pub fits : FitsIn (tiling whole) above (tiling band) around (image_and_work band)

-- bounds in a band as bounds in the whole
abbrev pub lowered_bounds : ℕ → Bounds → Bounds
lowered_bounds rows b = record { left = b.left; right = b.right; top = rows + b.top; bottom = rows + b.bottom }

-- the table of a band's bounds, put between those of the tiles above and below
abbrev pub put_bounds : ℕ → List Bounds → List Bounds → List Bounds → List Bounds
put_bounds rows table_above table_below table = table_above ++ (map (lowered_bounds rows) table ++ table_below)

-- ---- what is done in a band

-- one inner tile of a band is swept, its hints are handed over within the band, and the bounds follow
pub record IsSweptInBand (whole : Tiles) (above : ℕ) (before : Core) (table : List Bounds) (t : ℕ) (after : Core)
    (new : List Bounds) : Type 0 where
  pub inner : IsInner whole above (tiling before) t
  pub dirty : IsDirty before t
  pub image : Raster
  pub left : ImageAndWork
  pub grown : IsGrownAt before t image
  pub told : AreTold (tiling before) (hints_of before (grown_core before t image) t)
      (image_and_work (grown_core before t image)) left
  pub result : after ≡ with_image_and_work before left
  pub follow : FollowChange (tiling before) before.conn image left.image (slice_set table t no_bounds) new

-- these tiles of a band are swept so, one after another
abbrev pub AreSweptInBand : Tiles → ℕ → Core → List Bounds → List ℕ → Core → List Bounds → Type 0
AreSweptInBand whole above before table [] after new = (after ≡ before) × (new ≡ table)
AreSweptInBand whole above before table (t ∷ ts) after new =
    (next : Core) × (middle : List Bounds) × IsSweptInBand whole above before table t next middle
    × AreSweptInBand whole above next middle ts after new

-- the serial after so many takes
abbrev pub later_serial : ℕ → ℕ → ℕ
later_serial serial zero = serial
later_serial serial (suc n) = later_serial ((serial + 1) % 2 ^ 64) n

-- the whole with another band put in, so many takes later
abbrev pub with_band : Core → Around → Core → ℕ → Core
with_band whole around band takes = record whole {
  image = (put_in around (image_and_work band)).image;
  tiles = (put_in around (image_and_work band)).rows;
  serial = later_serial whole.serial takes;
}

-- events that take these tiles, each as often as it stands here, merge and abandon nothing, and leave only dirty tiles
-- to be swept
pub record AreSwept (before : Core) (ts : List ℕ) (after : Core) : Type 0 where
  pub log : List Entry
  pub runs : IsRun before log after
  pub taken : tiles_taken log ≡ ts
  pub none_abandoned : abandons_of log ≡ 0
  pub none_merged : merges_of log ≡ 0
  pub count : length after.tiles ≡ length before.tiles
  pub left : HasOnlySweeps after
  pub spent : length ts + burden after ≤ burden before

-- so many tiles are swept so, and the set has gained them
pub record AreSweptInto (before : Core) (old : List Bool) (after : Core) (new : List Bool) (jobs : ℕ) : Type 0 where
  pub ts : List ℕ
  pub swept : AreSwept before ts after
  pub gained : HasGained old (Contains ts) new
  pub jobs_are : jobs ≡ length ts

-- ---- bands that stand one below another

-- a band with the bounds of its tiles
pub record Strip : Type 0 where
  pub core : Core
  pub table : List Bounds

-- what stands above a row of tiles: the cells, and the work and the bounds of the tiles
pub record Top : Type 0 where
  pub cells : List ℕ
  pub works : List TileWork
  pub table : List Bounds

abbrev pub cells_of : List Strip → List ℕ
cells_of [] = []
cells_of (strip ∷ rest) = strip.core.image.cells ++ cells_of rest

abbrev pub works_of : List Strip → List TileWork
works_of [] = []
works_of (strip ∷ rest) = strip.core.tiles ++ works_of rest

abbrev pub tables_of : Tiles → ℕ → List Strip → List Bounds
tables_of whole above [] = []
tables_of whole above (strip ∷ rest) =
    map (lowered_bounds (rows_above whole above)) strip.table
    ++ tables_of whole (above + rows_of (tiling strip.core)) rest

-- the band stands in the whole from this row of tiles on, and is as large as its tiling says
pub record StandsAt (whole : Core) (above : ℕ) (strip : Strip) : Type 0 where
  pub tiled : IsTiled (tiling strip.core)
  pub tiles : IsBandOf (tiling whole) above (tiling strip.core)
  pub conn : strip.core.conn ≡ whole.conn
  pub mask : (p : Pixel) → IsInside strip.core.mask.width strip.core.mask.height p
      → mask_at whole (lowered (rows_above (tiling whole) above) p) ≡ mask_at strip.core p
  pub width : strip.core.image.width ≡ strip.core.mask.width
  pub height : strip.core.image.height ≡ strip.core.mask.height
  pub filled : IsFilled strip.core.image
  pub works : length strip.core.tiles ≡ count_of (tiling strip.core)
  pub table : length strip.table ≡ count_of (tiling strip.core)

-- so does each of the bands, and below each but the last the next one begins
abbrev pub AreStacked : Core → ℕ → List Strip → Type 0
AreStacked whole above [] = Unit {0}
AreStacked whole above (strip ∷ rest) =
    StandsAt whole above strip
    × ((rest ≡ []) ⊎ (strip.core.mask.height ≡ rows_of (tiling strip.core) * whole.side))
    × AreStacked whole (above + rows_of (tiling strip.core)) rest

-- what stands above is as large as so many rows of tiles
pub record IsTop (whole : Tiles) (above : ℕ) (top : Top) : Type 0 where
  pub cells : length top.cells ≡ rows_above whole above * whole.width
  pub works : length top.works ≡ tiles_above whole above
  pub table : length top.table ≡ tiles_above whole above

-- so it is, where bands stand below
abbrev pub IsTopOf : Tiles → ℕ → Top → List Strip → Type 0
IsTopOf whole above top [] = Unit {0}
IsTopOf whole above top (strip ∷ rest) = IsTop whole above top

-- in each band these tiles are swept
abbrev pub AreAllSwept : Tiles → ℕ → List Strip → List (List ℕ) → List Strip → Type 0
AreAllSwept whole above [] [] [] = Unit {0}
AreAllSwept whole above (strip ∷ rest) (ts ∷ tss) (after ∷ others) =
    AreSweptInBand whole above strip.core strip.table ts after.core after.table
    × AreAllSwept whole (above + rows_of (tiling strip.core)) rest tss others
AreAllSwept whole above _ _ _ = ⊥

-- the tiles of the whole that those are, band by band
abbrev pub all_taken : Tiles → ℕ → List Strip → List (List ℕ) → List ℕ
all_taken whole above (strip ∷ rest) (ts ∷ tss) =
    map (λ t. tiles_above whole above + t) ts ++ all_taken whole (above + rows_of (tiling strip.core)) rest tss
all_taken whole above _ _ = []

-- the whole with other bands below what stands above, so many takes later
abbrev pub with_all : Core → Top → List Strip → ℕ → Core
with_all whole top strips takes = record whole {
  image = record whole.image { cells = top.cells ++ cells_of strips };
  tiles = top.works ++ works_of strips;
  serial = later_serial whole.serial takes;
}

-- ---- a band by itself

-- there is a sound core in which the band stands with its bounds, and dirty tiles are all that is left to do there
pub record IsSomewhere (tiles : Tiles) (above : ℕ) (strip : Strip) : Type 0 where
  pub whole : Core
  pub around : Around
  pub table_above : List Bounds
  pub table_below : List Bounds
  pub tiling_is : tiling whole ≡ tiles
  pub sound : IsSound whole
  pub left : HasOnlySweeps whole
  pub tiled : IsTiled (tiling strip.core)
  pub is : IsBandIn whole above strip.core around
  pub count_above : length table_above ≡ tiles_above (tiling whole) above
  pub count : length strip.table ≡ count_of (tiling strip.core)
  pub bounded : AreBounded whole (put_bounds (rows_above (tiling whole) above) table_above table_below strip.table)

-- so there is for each of some bands, the first of which begins at this row of tiles
abbrev pub AreSomewhere : Tiles → ℕ → List Strip → Type 0
AreSomewhere tiles above [] = Unit {0}
AreSomewhere tiles above (strip ∷ rest) =
    IsSomewhere tiles above strip × AreSomewhere tiles (above + rows_of (tiling strip.core)) rest

-- how many rows of tiles the bands have
abbrev pub rows_in : List Strip → ℕ
rows_in [] = 0
rows_in (strip ∷ rest) = rows_of (tiling strip.core) + rows_in rest
