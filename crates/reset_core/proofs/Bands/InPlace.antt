-- A tile of a band that is swept in place.
use Rattle.std.proofs.Common.{ℕ, List, refl}
use Rattle.grid_core.specs.{declared.bounds.Bounds.Bounds, Tiles.Tiles}
use Rattle.core_rules.specs.{Runs.IsDirty, Work.Core, Work.tiling}
use Rattle.reset_core.specs.{Bands.IsInner, Bands.IsSweptInBand, InPlace.IsSweptHere}
use Rattle.reset_core.specs.Telling.{ImageAndWork, with_image_and_work}

-- a swept tile of a band is one that is swept in the band
pub swept_in_band : (whole : Tiles) (above : ℕ) (before : Core) (table : List Bounds) (t : ℕ) (s : ImageAndWork)
    (new : List Bounds) → IsInner whole above (tiling before) t → IsDirty before t → IsSweptHere before table t s new
    → IsSweptInBand whole above before table t (with_image_and_work before s) new
swept_in_band whole above before table t s new inner dirty swept = record {
  inner = inner;
  dirty = dirty;
  image = swept.image;
  left = s;
  grown = swept.grown;
  told = swept.told;
  result = refl;
  follow = swept.follow;
}
