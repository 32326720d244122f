-- Copies of an image in tiles that were given out, and which of its tiles changed since each was made.
use Rattle.std.specs.Prelude.{◌≡◌, ◌⊎◌, ℕ, Bool, false, List, length, replicate, Option, Some, None, IfSome}
use Rattle.grid_core.specs.{declared.pixel.Pixel.Pixel, declared.rect.Rect.Rect}
use Rattle.grid_core.specs.Raster.{Raster, IsInside, value_at}
use Rattle.grid_core.specs.Rects.{IsInRect, IsPatch}
use Rattle.grid_core.specs.Tiles.{Tiles, count_of, tile_of}
use Rattle.tile_work.specs.TileSet.{Has, HasGained}
use Rattle.tiled_image.specs.TiledImage.{IsOfTiling}

-- the last three copies that were given out, as far as they are still there, and the tiles that changed: since the last
-- one was made, between the older one and the last, and between the oldest one and the last
pub record Copies : Type 0 where
  pub last : Option Raster
  pub older : Option Raster
  pub oldest : Option Raster
  pub changed : List Bool
  pub older_changed : List Bool
  pub oldest_changed : List Bool

-- no copy of an image of so many tiles
abbrev pub no_copies : ℕ → Copies
no_copies count = record {
  last = None;
  older = None;
  oldest = None;
  changed = replicate count false;
  older_changed = replicate count false;
  oldest_changed = replicate count false;
}

-- ---- what is true of copies

-- the copy has the size of the whole image, and its values at each pixel but in the tiles of which this holds
pub record IsCopyBut (P : ℕ → Type 0) (tiling : Tiles) (whole copy : Raster) : Type 0 where
  pub of_tiling : IsOfTiling tiling copy
  pub values : (p : Pixel) → IsInside tiling.width tiling.height p → (P (tile_of tiling p) → ⊥)
      → value_at copy p ≡ value_at whole p

-- the tile is in one of the sets
abbrev pub HasEither : List Bool → List Bool → ℕ → Type 0
HasEither one other t = Has one t ⊎ Has other t

-- each copy that is there is one of the image, but in the tiles that changed since it was made
pub record AreCopies (tiling : Tiles) (whole : Raster) (copies : Copies) : Type 0 where
  pub count : length copies.changed ≡ count_of tiling
  pub older_count : length copies.older_changed ≡ count_of tiling
  pub oldest_count : length copies.oldest_changed ≡ count_of tiling
  pub last : (copy : Raster) → copies.last ≡ Some copy → IsCopyBut (Has copies.changed) tiling whole copy
  pub older : (copy : Raster) → copies.older ≡ Some copy
      → IsCopyBut (HasEither copies.older_changed copies.changed) tiling whole copy
  pub oldest : (copy : Raster) → copies.oldest ≡ Some copy
      → IsCopyBut (HasEither copies.oldest_changed copies.changed) tiling whole copy

-- ---- what becomes of them

-- the tiles of which this holds have changed, and nothing else
pub record HaveChanged (P : ℕ → Type 0) (old new : Copies) : Type 0 where
  pub changed : HasGained old.changed P new.changed
  pub rest : new ≡ record old { changed = new.changed }

-- the oldest copy is gone, and is this one, if one, and all tiles that changed since it was made are in its set
pub record IsOldestTaken (old : Copies) (oldest : Option Raster) (new : Copies) : Type 0 where
  pub taken : IfSome oldest (λ copy. old.oldest ≡ Some copy)
  pub changed : HasGained old.oldest_changed (Has old.changed) new.oldest_changed
  pub rest : new ≡ record old { oldest = None; oldest_changed = new.oldest_changed }

-- the copy is the last one, no tile changed since, and the others are older by one
pub record IsKeptLast (copy : Raster) (old new : Copies) : Type 0 where
  pub last : new.last ≡ Some copy
  pub changed : new.changed ≡ replicate (length old.oldest_changed) false
  pub older : new.older ≡ old.last
  pub older_changed : new.older_changed ≡ old.changed
  pub oldest : new.oldest ≡ old.older
  pub oldest_changed : HasGained old.older_changed (Has old.changed) new.oldest_changed

-- the copy has the whole image's values in this tile, and its old ones in the others
pub record IsTileCopied (whole : Raster) (tiling : Tiles) (t : ℕ) (old new : Raster) : Type 0 where
  pub of_tiling : IsOfTiling tiling new
  pub here : (p : Pixel) → IsInside tiling.width tiling.height p → tile_of tiling p ≡ t
      → value_at new p ≡ value_at whole p
  pub others : (p : Pixel) → IsInside tiling.width tiling.height p → (tile_of tiling p ≡ t → ⊥)
      → value_at new p ≡ value_at old p

-- the image has the source's values in the rectangle, and its old ones elsewhere
pub record IsRectCopied (rect : Rect) (source old new : Raster) : Type 0 where
  pub here : (p : Pixel) → IsInRect rect p → value_at new p ≡ value_at source p
  pub patch : IsPatch rect old new
