-- The masks that jobs share.
use Rattle.std.proofs.Common.{◌≡◌, ℕ, ◌+◌, Some, None, slice_index_or, sym, ◌∙◌, ap, subst, arith}
use Rattle.grid_core.specs.{declared.pixel.Pixel.Pixel, declared.rect.Rect.Rect, Raster.Raster, Raster.value_at}
use Rattle.grid_core.specs.{Rects.IsPart, Rects.RectFits, Rects.in_image, Tiles.Tiles, Tiles.rect_of}
use Rattle.core_rules.specs.{Sweeps.tile_rect, Work.Core}
use Rattle.reset_core.specs.{declared.replica.Core.TheInside.Inside as Parts, Replica.core_of, Replica.IsStored}
use Rattle.reset_core.proofs.Storing.{same_tiling}

-- a mask that was cut out is that of its tile
pub shared_part : (parts : Parts) (core : Core) → core_of parts ≡ core → IsStored parts → (t : ℕ) (mask : Raster)
    → slice_index_or parts.masks t None ≡ Some mask → IsPart (tile_rect core t) core.mask mask
shared_part parts core view stored t mask there =
    subst (λ (c : Core). IsPart (tile_rect c t) c.mask mask) view
    (subst (λ (tiles : Tiles). IsPart (rect_of tiles t) parts.markers.mask mask)
    (same_tiling parts.markers (sym stored.masks.width) (sym stored.masks.height)) (stored.masks.cut t mask there))

module _ (rect : Rect) (whole cut : Raster) (is_cut : IsPart rect whole cut) where
  -- the whole of what was cut out
  abbrev pub all_of_it : Rect
  all_of_it = record { x = 0; y = 0; w = rect.w; h = rect.h }

  same_place : (p : Pixel) → in_image all_of_it p ≡ p
  same_place p =
      let x : 0 + p.x ≡ p.x = omega arith in
      let y : 0 + p.y ≡ p.y = omega arith in
      λ i. record { x = x i; y = y i }

  pub all_fits : RectFits whole.width whole.height rect → RectFits cut.width cut.height all_of_it
  all_fits fits = record {
    some_width = fits.some_width;
    some_height = fits.some_height;
    columns = omega (arith, is_cut.width);
    rows = omega (arith, is_cut.height);
  }

  -- what is all of it is the part of the whole, and the other way round
  pub part_by_cut : (piece : Raster) → IsPart all_of_it cut piece → IsPart rect whole piece
  part_by_cut piece same = record {
    width = same.width;
    height = same.height;
    filled = same.filled;
    values = λ p inside. same.values p inside ∙ ap (value_at cut) (same_place p) ∙ is_cut.values p inside;
  }

  pub cut_by_part : (piece : Raster) → IsPart rect whole piece → IsPart all_of_it cut piece
  cut_by_part piece part = record {
    width = part.width;
    height = part.height;
    filled = part.filled;
    values = λ p inside. part.values p inside ∙ sym (is_cut.values p inside) ∙ ap (value_at cut) (sym (same_place p));
  }
