-- Hints that are handed over as soon as they are told, and how much work a core can still have.
use Rattle.std.specs.Prelude.{◌≡◌, ℕ, ◌+◌, ◌%◌, ◌^◌, ◌≤◌, ◌==◌, true, false, nat_lt, if◌then◌else◌, List, [], ◌∷◌}
use Rattle.std.specs.Prelude.{length, filter, ◌<◌}
use Rattle.std.specs.Prelude.{slice_index_or, slice_set, Contains}
use Rattle.grid_core.specs.{declared.bounds.Bounds.Bounds, declared.pixel.Pixel.Pixel, Bounds.IsInBounds}
use Rattle.grid_core.specs.{Reconstruction.IsReconstruction, Rects.IsInRect, Rects.domain_in, Rects.part}
use Rattle.grid_core.specs.Raster.{Raster, IsFilled, IsInside, headroom, value_at, with_value}
use Rattle.grid_core.specs.Tiles.{Tiles, IsTiled, tile_of, count_of}
use Rattle.border_queues.specs.declared.hint.Hint.{Hint}
use Rattle.border_queues.specs.TileWork.{TileWork, idle, dirty_count}
use Rattle.core_rules.specs.{Image.IsOfSize, Sweeps.tile_rect, Work.Core, Work.mask_at, Work.image_at, Work.work_at}
use Rattle.tile_work.specs.WorkTable.{IsToInside}

-- ---- how much work a core can still have

-- an image, and the work that is left at each tile
pub record ImageAndWork : Type 0 where
  pub image : Raster
  pub rows : List TileWork

-- how often a pixel can still rise or a tile be swept, at most
abbrev pub burden_of : ImageAndWork → ℕ
burden_of s = headroom s.image.cells + dirty_count s.rows

abbrev pub both : Raster → List TileWork → ImageAndWork
both image rows = record { image = image; rows = rows }

-- whole rows of cells as the image that is cut into these tiles
abbrev pub image_on : Tiles → List ℕ → Raster
image_on tiles cells = record { width = tiles.width; height = tiles.height; cells = cells }

-- so, with the work at the tiles
abbrev pub both_on : Tiles → List ℕ → List TileWork → ImageAndWork
both_on tiles cells work = both (image_on tiles cells) work

abbrev pub image_and_work : Core → ImageAndWork
image_and_work core = record { image = core.image; rows = core.tiles }

abbrev pub burden : Core → ℕ
burden core = burden_of (image_and_work core)

-- the core with another image and other work
abbrev pub with_image_and_work : Core → ImageAndWork → Core
with_image_and_work core s = record core { image = s.image; tiles = s.rows }

-- ---- hints that are handed over

-- the pixel of the hint has the hint's value, and its tile is dirty
abbrev pub risen_by : Tiles → Hint → ImageAndWork → ImageAndWork
risen_by tiles hint s =
    let t = tile_of tiles hint.to_pixel in
    record {
      image = with_value s.image hint.to_pixel hint.value;
      rows = slice_set s.rows t (record (slice_index_or s.rows t idle) { dirty = true });
    }

-- the hint raises its pixel where that is below the hint's value
abbrev pub handed : Tiles → Hint → ImageAndWork → ImageAndWork
handed tiles hint s = if nat_lt (value_at s.image hint.to_pixel) hint.value then risen_by tiles hint s else s

-- the hints are handed over, one after another
abbrev pub all_handed : Tiles → List Hint → ImageAndWork → ImageAndWork
all_handed tiles [] s = s
all_handed tiles (hint ∷ hints) s = all_handed tiles hints (handed tiles hint s)

-- the hints for the pixels of a tile, in their order
abbrev pub hints_in : Tiles → List Hint → ℕ → List Hint
hints_in tiles hints t = filter (λ hint. tile_of tiles hint.to_pixel == t) hints

-- these hints have been handed over: the sizes stay, and no more work can be left than before
pub record AreHandedOver (tiles : Tiles) (hints : List Hint) (before after : ImageAndWork) : Type 0 where
  pub result : all_handed tiles hints before ≡ after
  pub width : after.image.width ≡ before.image.width
  pub height : after.image.height ≡ before.image.height
  pub cells : length after.image.cells ≡ length before.image.cells
  pub count : length after.rows ≡ length before.rows
  pub burden : burden_of after ≤ burden_of before

-- so they have, where the image is whole rows of cells
abbrev pub IsHandOver : Tiles → List Hint → List ℕ → List TileWork → List ℕ → List TileWork → Type 0
IsHandOver tiles hints old work new after = AreHandedOver tiles hints (both_on tiles old work) (both_on tiles new after)

-- the cells have room for an image that is cut into these tiles, and there is work at each of them
pub record AreOfTiles (tiles : Tiles) (cells : List ℕ) (work : List TileWork) : Type 0 where
  pub tiled : IsTiled tiles
  pub filled : IsFilled (image_on tiles cells)
  pub count : count_of tiles ≡ length work

-- so it is, and this is one of the tiles
pub record HaveWorkAt (tiles : Tiles) (cells : List ℕ) (work : List TileWork) (t : ℕ) : Type 0 where
  pub parts : AreOfTiles tiles cells work
  pub within : t < length work

-- the pixel of each of the hints lies in the image
abbrev pub AreToInside : Tiles → List Hint → Type 0
AreToInside tiles hints = (hint : Hint) → Contains hints hint → IsToInside tiles hint

-- the pixel of each of the hints lies within the bounds
abbrev pub LieWithin : Bounds → List Hint → Type 0
LieWithin bounds hints = (hint : Hint) → Contains hints hint → IsInBounds bounds hint.to_pixel

-- no hint is for a tile before that of an earlier one
abbrev pub AreInTileOrder : Tiles → List Hint → Type 0
AreInTileOrder tiles [] = Unit {0}
AreInTileOrder tiles (hint ∷ hints) =
    ((later : Hint) → Contains hints later → tile_of tiles hint.to_pixel ≤ tile_of tiles later.to_pixel)
    × AreInTileOrder tiles hints

-- the same hints, tile by tile
pub record AreByTile (tiles : Tiles) (hints by_tile : List Hint) : Type 0 where
  pub same : (t : ℕ) → t < count_of tiles → hints_in tiles by_tile t ≡ hints_in tiles hints t
  pub order : AreInTileOrder tiles by_tile
  pub those : (hint : Hint) → Contains by_tile hint → Contains hints hint

-- these hints have been handed over, tile by tile
pub record AreTold (tiles : Tiles) (hints : List Hint) (before after : ImageAndWork) : Type 0 where
  pub by_tile : List Hint
  pub sorted : AreByTile tiles hints by_tile
  pub over : AreHandedOver tiles by_tile before after

-- ---- a tile that is swept

-- the image has grown in the tile: there it is the reconstruction, and elsewhere it is as it was
pub record IsGrownAt (before : Core) (t : ℕ) (image : Raster) : Type 0 where
  pub size : IsOfSize before.image image
  pub grown : IsReconstruction (domain_in (tile_rect before t) before.conn) (part (tile_rect before t) (mask_at before))
      (part (tile_rect before t) (image_at before)) (part (tile_rect before t) (value_at image))
  pub beyond : (p : Pixel) → IsInside before.image.width before.image.height p
      → (IsInRect (tile_rect before t) p → ⊥) → value_at image p ≡ image_at before p

-- the tile without its dirty mark
abbrev pub clean : Core → ℕ → TileWork
clean core t = record (work_at core t) { dirty = false }

-- the core with this image and this tile clean, before it tells hints
abbrev pub grown_core : Core → ℕ → Raster → Core
grown_core before t image = record before {
  image = image;
  tiles = slice_set before.tiles t (clean before t);
  serial = (before.serial + 1) % 2 ^ 64;
}
