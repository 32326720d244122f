-- Samples of rectangles that are put behind a text, row by row, and one rectangle after another.
use Rattle.std.proofs.Common.{◌≡◌, ℕ, ◌+◌, ◌<◌, ◌≤◌, refl, sym, ◌∙◌, ap, List, [], ◌∷◌, ◌++◌, append_assoc}
use Rattle.std.proofs.Common.{append-nil, arith, All, flat_map}
use Rattle.std.proofs.{Math.Nat.mul_comm, lemmas.List.Concat.flat_map-append}
use Rattle.std.proofs.lemmas.List.Elements.{All-from_get_or}
use Rattle.grid_core.specs.{declared.pixel.Pixel.Pixel, declared.rect.Rect.Rect, Raster.Raster, Raster.index_of}
use Rattle.grid_core.specs.{Raster.value_at, Rects.IsPart, Rects.IsRowOf, Rects.RectFits, Rects.in_image, Rects.part}
use Rattle.grid_core.proofs.{Cells.index_of-within, ImageRows.AreRows, ImageRows.rows_more}
use Rattle.pgm_codec.specs.{Graymap.Graymap, Graymap.IsGraymap, Writing.sample_bytes}
use Rattle.page_board.specs.{Changes.AreSamplesIn, Putting.PutsPart, Putting.PutsSamples}

-- a row of a rectangle has no sample above the image's maxval
pub row_within : (g : Graymap) (rect : Rect) (y : ℕ) (row : List ℕ) → IsGraymap g
    → RectFits g.raster.width g.raster.height rect → y < rect.h
    → IsRowOf rect.w (part rect (value_at g.raster)) y row → All (λ s. s ≤ g.maxval) row
row_within g rect y row graymap fits below is_row = All-from_get_or (λ s. s ≤ g.maxval) row 0 (λ k within.
    let p : Pixel = in_image rect (record { x = k; y = y }) in
    let column : k < rect.w = omega (arith, within, is_row.long) in
    let whole = graymap.samples_within (index_of g.raster.width p) (index_of-within g.raster p graymap.sized.filled
    (omega (arith, fits.columns, column), omega (arith, fits.rows, below))) in
    omega (arith, is_row.values k column, whole))

-- ---- the rows of a rectangle, one after another

-- the second text is the first and the samples of the first rows of the rectangle behind it
pub record PutsRows (g : Graymap) (rect : Rect) (rows : ℕ) (before after : List ℕ) : Type 0 where
  pub cells : List ℕ
  pub are_rows : AreRows rect.w (part rect (value_at g.raster)) rows cells
  pub behind : after ≡ before ++ flat_map (sample_bytes g.maxval) cells

pub no_row : (g : Graymap) (rect : Rect) (before : List ℕ) → PutsRows g rect 0 before before
no_row g rect before = record {
  cells = [];
  are_rows = (omega arith, λ p column none. absurd (omega (arith, none)));
  behind = sym (append-nil before);
}

pub row_more : (g : Graymap) (rect : Rect) (y : ℕ) (row before now after : List ℕ) → PutsRows g rect y before now
    → IsRowOf rect.w (part rect (value_at g.raster)) y row → after ≡ now ++ flat_map (sample_bytes g.maxval) row
    → PutsRows g rect (y + 1) before after
row_more g rect y row before now after so_far is_row put =
    let bytes : List ℕ → List ℕ = flat_map (sample_bytes g.maxval) in record {
      cells = so_far.cells ++ row;
      are_rows =
          rows_more rect.w (part rect (value_at g.raster)) y row so_far.cells (so_far.cells ++ row) so_far.are_rows
          is_row refl;
      behind = put ∙ ap (λ (text : List ℕ). text ++ bytes row) so_far.behind
          ∙ append_assoc before (bytes so_far.cells) (bytes row)
          ∙ ap (λ (behind : List ℕ). before ++ behind)
          (sym (flat_map-append (sample_bytes g.maxval) so_far.cells row));
    }

pub all_rows : (g : Graymap) (rect : Rect) (before after : List ℕ) → PutsRows g rect rect.h before after
    → PutsPart g rect before after
all_rows g rect before after rows = record {
  piece = record { width = rect.w; height = rect.h; cells = rows.cells };
  is_part = record {
    width = refl;
    height = refl;
    filled = rows.are_rows.0 ∙ mul_comm rect.h rect.w;
    values = λ p inside. rows.are_rows.1 p inside.0 inside.1;
  };
  behind = rows.behind;
}

-- ---- rectangles, one after another

-- one rectangle more
pub samples_push : (g : Graymap) (rects : List Rect) (rect : Rect) (piece : Raster) (bytes : List ℕ)
    → AreSamplesIn g rects bytes → IsPart rect g.raster piece
    → AreSamplesIn g (rects ++ rect ∷ []) (bytes ++ flat_map (sample_bytes g.maxval) piece.cells)
samples_push g [] rect piece bytes none is_part =
    (piece, [], is_part, refl, rw none (sym (append-nil (flat_map (sample_bytes g.maxval) piece.cells))))
samples_push g (first ∷ rects) rect piece bytes (its, others, its_part, rest, is) is_part = (
  its,
  others ++ flat_map (sample_bytes g.maxval) piece.cells,
  its_part,
  samples_push g rects rect piece others rest is_part,
  rw is (append_assoc (flat_map (sample_bytes g.maxval) its.cells) others
      (flat_map (sample_bytes g.maxval) piece.cells)),
)

pub puts_more : (g : Graymap) (rects : List Rect) (rect : Rect) (piece : Raster) (before now after : List ℕ)
    → PutsSamples g rects before now → IsPart rect g.raster piece
    → after ≡ now ++ flat_map (sample_bytes g.maxval) piece.cells → PutsSamples g (rects ++ rect ∷ []) before after
puts_more g rects rect piece before now after so_far is_part put = record {
  bytes = so_far.bytes ++ flat_map (sample_bytes g.maxval) piece.cells;
  are_samples = samples_push g rects rect piece so_far.bytes so_far.are_samples is_part;
  behind = put ∙ ap (λ (text : List ℕ). text ++ flat_map (sample_bytes g.maxval) piece.cells) so_far.behind
      ∙ append_assoc before so_far.bytes (flat_map (sample_bytes g.maxval) piece.cells);
}
