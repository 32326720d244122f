-- A copy of an image gets the image's values tile by tile, and is the image in the end.
use Rattle.std.proofs.Common.{◌≡◌, ℕ, ◌+◌, ◌<◌, ◌≤◌, Bool, List, Option, Some, None, length, ap, sym, subst, ◌∙◌}
use Rattle.std.proofs.Common.{inl, inr, arith, refl, le_of_eq, slice_index_or}
use Rattle.std.proofs.lemmas.Bool.{cases_eq}
use Rattle.grid_core.specs.{declared.pixel.Pixel.Pixel, declared.rect.Rect.Rect}
use Rattle.grid_core.specs.Raster.{Raster, IsInside, IsSized, value_at}
use Rattle.grid_core.specs.Rects.{IsPart, IsPatch, RectFits}
use Rattle.grid_core.specs.Tiles.{Tiles, count_of, rect_of, tile_of}
use Rattle.grid_core.proofs.Cells.{equal_images}
use Rattle.tile_generations.specs.Jobs.{all_of}
use Rattle.reset_core.specs.Parts.{IsPieceFor}
use Rattle.tile_work.specs.TileSet.{Has, HasNoneFrom, IsFirstFrom}
use Rattle.tiled_image.specs.Shown.{CanCopy, IsStripCopied, value_in}
use Rattle.tiled_image.specs.SharedCopies.{IsCopyBut, IsRectCopied, IsTileCopied}
use Rattle.tiled_image.specs.TiledImage.{IsKeptAs, IsOfTiling}
use Rattle.tiled_image.proofs.KeptImages.{inside_image, inside_tiling, still_of_tiling, tile_fits}
use Rattle.tiled_image.proofs.Places.{in_all, lies_in_all, place_in_all, rect_from_tile, tile_from_rect, value_in_part}
use Rattle.tiled_image.proofs.WrittenParts.{cell_in_all, with_cells_of}

-- ---- a rectangle

module _ (rect : Rect) (image copy : Raster) (sized : IsSized copy) (fits : RectFits copy.width copy.height rect) where
  pub can_copy_rect : image.width ≡ copy.width → image.height ≡ copy.height → (count : ℕ) → count ≡ length copy.cells
      → CanCopy rect image (all_of copy) (all_of copy) count
  can_copy_rect same_width same_height count count_is = record {
    width = same_width;
    height = same_height;
    some_width = fits.some_width;
    some_height = fits.some_height;
    lies_from = lies_in_all copy rect fits;
    lies_to = lies_in_all copy rect fits;
    room = le_of_eq (sym (count_is ∙ sized.filled));
    small = sized.size.pixels_within;
  }

  pub rect_copied : (new : List ℕ) → IsStripCopied rect (value_in (all_of copy) image) (all_of copy) copy.cells new
      → IsRectCopied rect image copy (with_cells_of copy new)
  rect_copied new copied = record {
    here = λ p inside.
        sym (cell_in_all copy new p) ∙ copied.inside p inside
        ∙ ap (λ (q : Pixel). value_at image q) (place_in_all copy p);
    patch = record {
      size = record { width = refl; height = refl; filled = copied.count ∙ sized.filled };
      beyond = λ p inside outside.
          sym (cell_in_all copy new p) ∙ copied.beyond p (in_all copy p inside) outside
          ∙ cell_in_all copy copy.cells p;
    };
  }

-- ---- a tile

module _ {whole : Raster} {tiling : Tiles} {rows : Raster} {parts : List (Option Raster)} {newer : List Bool}
    (kept : IsKeptAs whole tiling rows parts newer) (t : ℕ) (within : t < count_of tiling) (copy : Raster)
    (of_tiling : IsOfTiling tiling copy) where
  pub piece_for_copy : (m : Raster) → slice_index_or parts t None ≡ Some m → IsPieceFor (rect_of tiling t) copy m
  piece_for_copy m there = record {
    fits = tile_fits tiling copy of_tiling t within;
    width = (kept.are_cut.cut t m there).width;
    height = (kept.are_cut.cut t m there).height;
  }

  module _ (new : Raster) (patch : IsPatch (rect_of tiling t) copy new) where
    tile_copied : ((p : Pixel) → IsInside tiling.width tiling.height p → tile_of tiling p ≡ t
        → value_at new p ≡ value_at whole p)
        → IsTileCopied whole tiling t copy new
    tile_copied here = record {
      of_tiling = still_of_tiling tiling copy of_tiling new patch.size;
      here = here;
      others = λ p inside other.
          patch.beyond p (inside_image tiling copy of_tiling p inside)
          (λ in_rect. other (tile_from_rect tiling t kept.of_tiling.tiled within p inside in_rect));
    }

    -- from the tile's part
    pub tile_from_part : (m : Raster) → slice_index_or parts t None ≡ Some m → IsPart (rect_of tiling t) new m
        → IsTileCopied whole tiling t copy new
    tile_from_part m there is_part =
        tile_copied (λ p inside same.
        let rect = rect_of tiling t in
        let in_rect = rect_from_tile tiling t kept.of_tiling.tiled within p inside same in
        sym (value_in_part rect new m is_part p in_rect)
        ∙ value_in_part rect whole m (kept.are_cut.cut t m there) p in_rect)

  -- from the rows, where the tile is not newer
  pub tile_from_rows : (Has newer t → ⊥) → (new : Raster) → IsRectCopied (rect_of tiling t) rows copy new
      → IsTileCopied whole tiling t copy new
  tile_from_rows older new copied =
      tile_copied new copied.patch (λ p inside same.
      copied.here p (rect_from_tile tiling t kept.of_tiling.tiled within p inside same)
      ∙ kept.current p inside (λ has. older (subst (λ n. Has newer n) same has)))

-- ---- tile after tile

-- the tile is in the set, from this one on
abbrev pub HasFrom : List Bool → ℕ → ℕ → Type 0
HasFrom tiles next t = Has tiles t × (next ≤ t)

module _ (tiles : List Bool) {whole : Raster} {tiling : Tiles} {copy : Raster} where
  pub none_copied_yet : IsCopyBut (Has tiles) tiling whole copy → IsCopyBut (HasFrom tiles 0) tiling whole copy
  none_copied_yet but = record {
    of_tiling = but.of_tiling;
    values = λ p inside other. but.values p inside (λ has. other (has, omega arith));
  }

  module _ (next : ℕ) (so_far : IsCopyBut (HasFrom tiles next) tiling whole copy) where
    pub one_more_copied : (t : ℕ) → IsFirstFrom tiles next t → (new : Raster) → IsTileCopied whole tiling t copy new
        → IsCopyBut (HasFrom tiles (t + 1)) tiling whole new
    one_more_copied t found new step = record {
      of_tiling = step.of_tiling;
      values = λ p inside not_left. elim (cases_eq (tile_of tiling p) t) [
        | inl same ↦ step.here p inside same
        | inr other ↦
            step.others p inside other
            ∙ so_far.values p inside (λ held.
            not_left (held.0, omega (arith, other, found.first (tile_of tiling p) held.1 held.0)))
      ];
    }

    -- where none is left, the copy is the image
    pub all_copied : HasNoneFrom tiles next → IsOfTiling tiling whole → copy ≡ whole
    all_copied none of_tiling =
        let own = so_far.of_tiling in
        equal_images copy whole own.sized.filled of_tiling.sized.filled (own.width ∙ sym of_tiling.width)
        (own.height ∙ sym of_tiling.height)
        (λ p inside. so_far.values p (inside_tiling tiling copy own p inside)
        (λ held. none (tile_of tiling p) held.1 held.0))
