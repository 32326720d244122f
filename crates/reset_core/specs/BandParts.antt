-- Bands as they are stored, and what sweeping them does. Only private functions have these words in their contracts.
use Rattle.std.specs.Prelude.{◌≡◌, ◌⊎◌, ℕ, ◌+◌, ◌*◌, ◌<◌, ◌≤◌, false, List, [], ◌∷◌, length, map, replicate, take, drop}
use Rattle.std.specs.Prelude.{slice_range, Contains}
use Rattle.grid_core.specs.{declared.bounds.Bounds.Bounds, declared.conn.Conn.Conn}
use Rattle.grid_core.specs.Tiles.{Tiles, IsTiled, count_of, rows_of}
use Rattle.border_queues.specs.{OpenEdges.room_for_edges, TileWork.TileWork, Waiting.places}
use Rattle.core_rules.specs.Runs.{IsDirty}
use Rattle.tile_work.specs.{Cutting.AreOnlyMarked, Cutting.in_band, OpenBounds.LieInTiles, TileSet.HasGained}
use Rattle.reset_core.specs.declared.replica.bands.Band.{Band}
use Rattle.reset_core.specs.InPlace.{core_on}
use Rattle.reset_core.specs.Bands.{Strip, AreSweptInBand, IsBandOf, IsInner, rows_above, tiles_above}

-- the band with this mask and this image
abbrev pub strip_of : Band → List ℕ → List ℕ → Strip
strip_of band mask image =
    record { core = core_on band.tiling band.conn mask image band.work; table = band.bounds }

-- how many pixels a band has
abbrev pub cells_in : Band → ℕ
cells_in band = band.tiling.width * band.tiling.height

-- bands that stand one below another, of which mask and image are these
abbrev pub strips_of : List ℕ → List ℕ → List Band → List Strip
strips_of mask image [] = []
strips_of mask image (band ∷ rest) =
    strip_of band (take (cells_in band) mask) (take (cells_in band) image)
    ∷ strips_of (drop (cells_in band) mask) (drop (cells_in band) image) rest

-- the band has room for the hints of one tile, and a set over its tiles
pub record IsReady (band : Band) : Type 0 where
  pub enough : room_for_edges band.tiling ≤ places band.told
  pub count : length band.swept ≡ count_of band.tiling

abbrev pub AreReady : List Band → Type 0
AreReady [] = Unit {0}
AreReady (band ∷ rest) = IsReady band × AreReady rest

-- the band's set has gained these tiles, and the band counts as many jobs more, but no more than it may; it is as large
-- as before, and has no less room for hints
pub record IsCounted (before : Band) (ts : List ℕ) (after : Band) : Type 0 where
  pub gained : HasGained before.swept (Contains ts) after.swept
  pub jobs : after.jobs ≡ before.jobs + length ts
  pub at_most : before.jobs ≤ before.limit → after.jobs ≤ before.limit
  pub conn : after.conn ≡ before.conn
  pub tiling : after.tiling ≡ before.tiling
  pub limit : after.limit ≡ before.limit
  pub least : after.least ≡ before.least
  pub enough : places before.told ≤ places after.told

-- tiles of the band were swept and counted
pub record AreTilesSwept (whole : Tiles) (above : ℕ) (mask : List ℕ) (before : Band) (old : List ℕ) (after : Band)
    (new : List ℕ) : Type 0 where
  pub ts : List ℕ
  pub swept :
      AreSweptInBand whole above (strip_of before mask old).core before.bounds ts (strip_of after mask new).core
      after.bounds
  pub counted : IsCounted before ts after
  pub cells : length new ≡ length old

-- so they were until no tile that may be swept was dirty, or as many were swept as may be, or as have to be
pub record IsBandSwept (whole : Tiles) (above : ℕ) (mask : List ℕ) (before : Band) (old : List ℕ) (after : Band)
    (new : List ℕ) : Type 0 where
  pub tiles : AreTilesSwept whole above mask before old after new
  pub none_left : after.jobs < after.limit → after.jobs < after.least → (t : ℕ)
      → IsInner whole above before.tiling t → IsDirty (strip_of after mask new).core t → ⊥

-- so it was with each of some bands that stand one below another
abbrev pub AreBandsSwept : Tiles → ℕ → List ℕ → List ℕ → List Band → List ℕ → List Band → Type 0
AreBandsSwept whole above mask old [] new [] = new ≡ old
AreBandsSwept whole above mask old (before ∷ rest) new (after ∷ others) =
    IsBandSwept whole above (take (cells_in before) mask) before (take (cells_in before) old) after
    (take (cells_in before) new)
    × AreBandsSwept whole (above + rows_of before.tiling) (drop (cells_in before) mask) (drop (cells_in before) old)
    rest (drop (cells_in before) new) others
AreBandsSwept whole above mask old _ new _ = ⊥

-- ---- cutting out and putting back

-- no job is out and no hint waits in the table, and the bounds are those of the tiling's tiles and lie in them
pub record IsUntouched (tiles : Tiles) (works : List TileWork) (table : List Bounds) : Type 0 where
  pub tiled : IsTiled tiles
  pub count : length works ≡ count_of tiles
  pub bounds : length table ≡ count_of tiles
  pub lie : LieInTiles tiles table
  pub only_marks : AreOnlyMarked works 0 (length works)

-- the tiling is that of the rows of tiles from this one on and before that one
pub record IsTilingOf (tiles : Tiles) (above below : ℕ) (band : Tiles) : Type 0 where
  pub tiled : IsTiled band
  pub is_band : IsBandOf tiles above band
  pub rows : above + rows_of band ≡ below
  pub ends : (below ≡ rows_of tiles) ⊎ (band.height ≡ rows_of band * tiles.side)

-- the band was cut out from this row of tiles on: its work and its bounds are those of the whole, nothing was swept
-- yet, and there is room for that
pub record IsBandCut (tiles : Tiles) (conn : Conn) (limit : ℕ) (works : List TileWork) (table : List Bounds)
    (above : ℕ) (band : Band) : Type 0 where
  pub tiling : IsTilingOf tiles above (above + rows_of band.tiling) band.tiling
  pub conn_is : band.conn ≡ conn
  pub work : band.work
      ≡ slice_range works (tiles_above tiles above) (tiles_above tiles above + count_of band.tiling)
  pub bounds : band.bounds
      ≡ map (in_band (rows_above tiles above))
      (slice_range table (tiles_above tiles above) (tiles_above tiles above + count_of band.tiling))
  pub swept : band.swept ≡ replicate (count_of band.tiling) false
  pub none_yet : band.jobs ≡ 0
  pub limit_is : band.limit ≡ limit
  pub enough : room_for_edges band.tiling ≤ places band.told

-- bands were cut out so, one below another, from this row of tiles on and before that one
abbrev pub AreBandsCut : Tiles → Conn → ℕ → List TileWork → List Bounds → ℕ → List Band → ℕ → Type 0
AreBandsCut tiles conn limit works table above [] below = above ≡ below
AreBandsCut tiles conn limit works table above (band ∷ rest) below =
    IsBandCut tiles conn limit works table above band
    × AreBandsCut tiles conn limit works table (above + rows_of band.tiling) rest below
