-- Cores that are stored with an image in tiles: what is said of that image in its tiles is true of the core's image.
use Rattle.std.proofs.Common.{◌≡◌, ℕ, ◌+◌, ◌<◌, ◌≤◌, Some, ap, arith, subst, sym, ◌∙◌}
use Rattle.grid_core.specs.{declared.rect.Rect.Rect, Raster.Raster, Rects.IsInRect, Rects.RectFits}
use Rattle.grid_core.specs.Tiles.{Tiles, count_of, rect_of}
use Rattle.grid_core.proofs.Tilings.{tiles_lie_inside}
use Rattle.border_queues.specs.declared.hint.Hint.{Hint}
use Rattle.core_rules.specs.{Hints.hint_at, Invariant.IsSound, Sweeps.tile_rect, Work.Core, Work.IsTile, Work.tiling}
use Rattle.core_rules.proofs.Quiet.{sound_is_lawful, quiet_is_reconstruction}
use Rattle.reset_core.specs.Answers.{IsImageOf}
use Rattle.reset_core.proofs.Storing.{goes_to_tile, image_below_mask, is_hint_of_tile, same_tiling}
use Rattle.tiled_image.proofs.Places.{rect_from_tile}
use Rattle.tiled_core.specs.declared.replica.TiledCore.TheInside.{Inside as TiledParts}
use Rattle.tiled_core.specs.Stored.{core_of, parts_of, IsStored}

-- an image that is a sound core's is what its image has to be
pub is_image_of : (core : Core) (image : Raster) → IsSound core → image ≡ core.image → IsImageOf core image
is_image_of core image sound same =
    let shape = sound.shape in
    record {
      value = same;
      sized = record {
        size = rw (shape.image.width, shape.image.height) shape.tiled.size;
        filled = shape.image.filled;
      };
      below = image_below_mask core sound;
      lawful = sound_is_lawful core sound;
      quiet = quiet_is_reconstruction core sound;
    }

module _ (tiled : TiledParts) (core : Core) (view : core_of tiled ≡ core) (stored : IsStored tiled) where
  -- the image is cut into the core's tiles
  pub kept_tiling : tiled.image.tiling ≡ tiling core
  kept_tiling =
      let masks = stored.stored.masks in
      stored.tiling ∙ same_tiling tiled.markers (sym masks.width) (sym masks.height) ∙ ap tiling view

  pub kept_rect : (t : ℕ) → rect_of tiled.image.tiling t ≡ tile_rect core t
  kept_rect t = ap (λ (ts : Tiles). rect_of ts t) kept_tiling

  pub kept_image : tiled.image.image ≡ core.image
  kept_image = ap (λ (c : Core). c.image) view

  pub kept_sound : IsSound core
  kept_sound = subst IsSound view stored.stored.sound

  tile_within : (t : ℕ) → IsTile core t → t < count_of (tiling core)
  tile_within t is_tile = omega (arith, is_tile, kept_sound.shape.tiles)

  -- the tiles of the image are those of the core, and they lie in it
  pub is_kept_tile : (t : ℕ) → IsTile core t → t < count_of tiled.image.tiling
  is_kept_tile t is_tile = subst (λ (ts : Tiles). t < count_of ts) (sym kept_tiling) (tile_within t is_tile)

  pub kept_tile_fits : (t : ℕ) → IsTile core t → RectFits core.image.width core.image.height (tile_rect core t)
  kept_tile_fits t is_tile =
      let shape = kept_sound.shape in
      let fits = tiles_lie_inside (tiling core) t shape.tiled (tile_within t is_tile) in
      let rect = tile_rect core t in
      record {
        some_width = fits.some_width;
        some_height = fits.some_height;
        columns = subst (λ w. rect.x + rect.w ≤ w) (sym shape.image.width) fits.columns;
        rows = subst (λ h. rect.y + rect.h ≤ h) (sym shape.image.height) fits.rows;
      }

  -- what is true of the image in a tile is true of the core's image there, and the other way round
  pub of_core : (P : Rect → Raster → Type 0) (t : ℕ) → P (rect_of tiled.image.tiling t) tiled.image.image
      → P (tile_rect core t) core.image
  of_core P t kept =
      subst (λ (r : Rect). P r core.image) (kept_rect t)
      (subst (λ (image : Raster). P (rect_of tiled.image.tiling t) image) kept_image kept)

  pub of_kept : (P : Rect → Raster → Type 0) (t : ℕ) → P (tile_rect core t) core.image
      → P (rect_of tiled.image.tiling t) tiled.image.image
  of_kept P t held =
      subst (λ (image : Raster). P (rect_of tiled.image.tiling t) image) (sym kept_image)
      (subst (λ (r : Rect). P r core.image) (sym (kept_rect t)) held)

  pub of_kept_at : (P : Rect → Raster → Type 0) (t tile : ℕ) → tile ≡ t → P (tile_rect core t) core.image
      → P (rect_of tiled.image.tiling tile) tiled.image.image
  of_kept_at P t tile tile_is held =
      of_kept P tile (subst (λ n. P (tile_rect core n) core.image) (sym tile_is) held)

  -- a hint that waits at a tile is for a pixel of the tile's rectangle
  pub goes_to_rect : (t i : ℕ) (hint : Hint) → hint_at (core_of tiled) t i ≡ Some hint
      → IsInRect (tile_rect core t) hint.to_pixel
  goes_to_rect t i hint there =
      let shape = stored.stored.sound.shape in
      let to = goes_to_tile (parts_of tiled) stored.stored t i hint there in
      let is_tile = is_hint_of_tile (parts_of tiled) stored.stored t i hint there in
      subst (λ (c : Core). IsInRect (tile_rect c t) hint.to_pixel) view
      (rect_from_tile (tiling (core_of tiled)) t shape.tiled (omega (arith, is_tile, shape.tiles)) hint.to_pixel
      to.inside to.tile)
