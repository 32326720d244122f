-- A part of an image is written into the image's cells.
use Rattle.std.proofs.Common.{◌≡◌, ℕ, List, length, slice_index, ap, sym, subst, ◌∙◌, le_of_eq, refl}
use Rattle.grid_core.specs.{declared.pixel.Pixel.Pixel, declared.rect.Rect.Rect}
use Rattle.grid_core.specs.Raster.{Raster, IsFilled, IsSized, index_of, value_at}
use Rattle.grid_core.specs.Rects.{IsPart, IsPatch, in_image}
use Rattle.reset_core.specs.Parts.{IsPieceFor}
use Rattle.tile_generations.specs.Jobs.{all_of}
use Rattle.tiled_image.specs.Shown.{CanCopy, IsStripCopied, cell_in, value_in}
use Rattle.tiled_image.proofs.Places.{image_in_rect, in_all, lies_in_all, lies_in_itself, place_in_all, place_of_image}

-- the image with other cells
abbrev pub with_cells_of : Raster → List ℕ → Raster
with_cells_of image cells = record { width = image.width; height = image.height; cells = cells }

-- in cells that show all of an image, a pixel stands at its place
pub cell_in_all : (image : Raster) (cells : List ℕ) (p : Pixel)
    → cell_in (all_of image) cells p ≡ value_at (with_cells_of image cells) p
cell_in_all image cells p = ap (λ (q : Pixel). slice_index cells (index_of image.width q)) (place_in_all image p)

-- all of an image, by its sides
pub all_by_sides : (image : Raster) (width height : ℕ) → width ≡ image.width → height ≡ image.height
    → all_of image ≡ record { x = 0; y = 0; w = width; h = height }
all_by_sides image width height width_is height_is =
    λ i. record { x = 0; y = 0; w = sym width_is i; h = sym height_is i }

-- a copy into cells that show all of an image by these sides
pub copied_into_all : (strip : Rect) (value : Pixel → ℕ) (image : Raster) (width height : ℕ) (cells new : List ℕ)
    → width ≡ image.width → height ≡ image.height → cells ≡ image.cells
    → IsStripCopied strip value (record { x = 0; y = 0; w = width; h = height }) cells new
    → IsStripCopied strip value (all_of image) image.cells new
copied_into_all strip value image width height cells new width_is height_is cells_are copied =
    subst (λ (old : List ℕ). IsStripCopied strip value (all_of image) old new) cells_are
    (subst (λ (all : Rect). IsStripCopied strip value all cells new)
    (sym (all_by_sides image width height width_is height_is)) copied)

module _ (rect : Rect) (rows part : Raster) (sized : IsSized rows) (piece : IsPieceFor rect rows part) where
  pub can_write : (count : ℕ) → count ≡ length rows.cells → CanCopy rect part rect (all_of rows) count
  can_write count count_is = record {
    width = piece.width;
    height = piece.height;
    some_width = piece.fits.some_width;
    some_height = piece.fits.some_height;
    lies_from = lies_in_itself rect;
    lies_to = lies_in_all rows rect piece.fits;
    room = le_of_eq (sym (count_is ∙ sized.filled));
    small = sized.size.pixels_within;
  }

  module _ (new : List ℕ) (filled : IsFilled part)
      (copied : IsStripCopied rect (value_in rect part) (all_of rows) rows.cells new) where
    pub written_part : IsPart rect (with_cells_of rows new) part
    written_part = record {
      width = piece.width;
      height = piece.height;
      filled = filled;
      values = λ q inside.
          sym (sym (cell_in_all rows new (in_image rect q))
          ∙ copied.inside (in_image rect q) (image_in_rect rect q inside)
          ∙ ap (λ (p : Pixel). value_at part p) (place_of_image rect q));
    }

    pub written_patch : IsPatch rect rows (with_cells_of rows new)
    written_patch = record {
      size = record { width = refl; height = refl; filled = copied.count ∙ sized.filled };
      beyond = λ p inside outside.
          sym (cell_in_all rows new p) ∙ copied.beyond p (in_all rows p inside) outside
          ∙ cell_in_all rows rows.cells p;
    }
