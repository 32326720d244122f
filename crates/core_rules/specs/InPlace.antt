-- A tile that is swept in place.
use Rattle.std.specs.Prelude.{◌≡◌, ◌≢◌, ℕ, ◌+◌, ◌%◌, ◌^◌, false, length}
use Rattle.grid_core.specs.{declared.pixel.Pixel.Pixel, Raster.IsInside, Reconstruction.IsReconstruction}
use Rattle.grid_core.specs.Rects.{IsInRect, domain_in, part}
use Rattle.core_rules.specs.{Image.IsOfSize, Sweeps.tile_rect, Sweeps.hints_of, Sweeps.hints_for}
use Rattle.core_rules.specs.Work.{Core, mask_at, image_at, IsTile, work_at}
use Rattle.border_queues.specs.TileWork.{received}

-- the image of the tile became the reconstruction of its mask, the tile is no longer dirty, and the hints of its open
-- edges wait at their tiles: the effect of a take, a sweep and a give-back with nothing between them
pub record IsSweptInPlace (before : Core) (t : ℕ) (after : Core) : Type 0 where
  pub size : IsOfSize before.image after.image
  pub grown :
      IsReconstruction (domain_in (tile_rect before t) before.conn) (part (tile_rect before t) (mask_at before))
      (part (tile_rect before t) (image_at before)) (part (tile_rect before t) (image_at after))
  pub beyond : (p : Pixel) → IsInside before.image.width before.image.height p
      → (IsInRect (tile_rect before t) p → ⊥) → image_at after p ≡ image_at before p
  pub own : work_at after t ≡ record (work_at before t) { dirty = false }
  pub others : (u : ℕ) → IsTile before u → u ≢ t
      → work_at after u ≡ received (work_at before u) (hints_for before u (hints_of before after t))
  pub count : length after.tiles ≡ length before.tiles
  pub rest : after ≡ record before {
    image = after.image;
    tiles = after.tiles;
    serial = (before.serial + 1) % 2 ^ 64;
  }
