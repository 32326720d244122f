-- All cells of a piece compared in one pass with those of a rectangle that is as wide as the whole image.
use Rattle.std.proofs.Common.{◌≡◌, ℕ, ◌+◌, ◌-◌, ◌*◌, ◌/◌, ◌%◌, ◌<◌, ◌≤◌, List, length, get_or, slice_range, refl, sym}
use Rattle.std.proofs.Common.{ap, subst, ◌∙◌, arith, inl, inr}
use Rattle.std.proofs.lemmas.{Bool.cases_lt, Nat.mul-add-lt, Nat.mul-le}
use Rattle.grid_core.specs.{declared.pixel.Pixel.Pixel, declared.rect.Rect.Rect}
use Rattle.grid_core.specs.Raster.{Raster, IsFilled, IsInside, index_of, value_at}
use Rattle.grid_core.specs.Rects.{RectFits, in_image}
use Rattle.grid_core.proofs.Cells.{index_of-within, index_of-pixel_of, pixel_of, pixel_of-inside}
use Rattle.tile_work.proofs.Parts.{get_or_part, length_part}
use Rattle.reset_core.specs.Parts.{AreCellsIn}
use Rattle.reset_core.proofs.SweepingRows.{AreRelated}

-- ---- a stretch of cells after another

-- the first so many cells are related
abbrev pub AreFirstRelated : (ℕ → ℕ → Type 0) → List ℕ → List ℕ → ℕ → Type 0
AreFirstRelated R a b count = (k : ℕ) → k < count → R (get_or a k 0) (get_or b k 0)

module _ (a b : List ℕ) (same : length a ≡ length b) (start end : ℕ) (order : start ≤ end)
    (within : end ≤ length a) where
  within_b : end ≤ length b
  within_b = omega (arith, within, same)

  pub as_long : length (slice_range a start end) ≡ length (slice_range b start end)
  as_long = length_part a start end order within ∙ sym (length_part b start end order within_b)

  pub stretch_more : (R : ℕ → ℕ → Type 0) → AreFirstRelated R a b start
      → AreRelated R (slice_range a start end) (slice_range b start end) → AreFirstRelated R a b end
  stretch_more R so_far related k before = elim (cases_lt k start) [
    | inl earlier ↦ so_far k earlier
    | inr from ↦
        let below : k - start < end - start = omega (arith, from, before) in
        let place : start + (k - start) ≡ k = omega (arith, from) in
        rw (
          get_or_part a start end order within (k - start) 0 below,
          get_or_part b start end order within_b (k - start) 0 below,
          place,
        ) at (related (k - start) (omega (arith, length_part a start end order within, below)))
  ]

  pub related_stretch : (R : ℕ → ℕ → Type 0) → AreRelated R a b
      → AreRelated R (slice_range a start end) (slice_range b start end)
  related_stretch R related u short =
      let below : u < end - start = omega (arith, length_part a start end order within, short) in
      rw (get_or_part a start end order within u 0 below, get_or_part b start end order within_b u 0 below)
      (related (start + u) (omega (arith, below, within)))

-- ---- the cells of a piece and those of the rectangle

module _ (rect : Rect) (whole piece : Raster) (found cells : List ℕ) (found_is : found ≡ piece.cells)
    (filled : IsFilled piece) (width : piece.width ≡ rect.w) (height : piece.height ≡ rect.h)
    (are_in : AreCellsIn rect whole cells) where
  pub as_many : length found ≡ length cells
  as_many =
      ap length found_is
      ∙ filled
      ∙ ap (λ w. w * piece.height) width
      ∙ ap (λ h. rect.w * h) height
      ∙ sym are_in.filled

  pub alike_at_once : (R : ℕ → ℕ → Type 0) → AreRelated R found cells → (p : Pixel) → IsInside rect.w rect.h p
      → R (value_at piece p) (value_at whole (in_image rect p))
  alike_at_once R related p inside =
      let k = index_of piece.width p in
      let within : k < length piece.cells =
      index_of-within piece p filled (omega (arith, inside.0, width), omega (arith, inside.1, height)) in
      let there : get_or cells k 0 ≡ value_at whole (in_image rect p) =
      ap (λ w. get_or cells (index_of w p) 0) width ∙ are_in.values p inside in
      let of_piece : AreRelated R piece.cells cells = subst (λ (xs : List ℕ). AreRelated R xs cells) found_is related in
      subst (R (value_at piece p)) there (of_piece k within)

  pub related_at_once : (R : ℕ → ℕ → Type 0)
      → ((p : Pixel) → IsInside rect.w rect.h p → R (value_at piece p) (value_at whole (in_image rect p)))
      → AreRelated R found cells
  related_at_once R alike =
      subst (λ (xs : List ℕ). AreRelated R xs cells) (sym found_is) (λ k within.
      let p : Pixel = pixel_of piece.width k in
      let there = pixel_of-inside piece k filled within in
      let inside : IsInside rect.w rect.h p = (
        subst (λ w. k % piece.width < w) width there.0,
        subst (λ h. k / piece.width < h) height there.1,
      ) in
      let place : index_of piece.width p ≡ k = index_of-pixel_of piece.width k in
      let of_piece : value_at piece p ≡ get_or piece.cells k 0 = ap (λ i. get_or piece.cells i 0) place in
      let of_whole : value_at whole (in_image rect p) ≡ get_or cells k 0 =
      sym (are_in.values p inside)
      ∙ ap (λ w. get_or cells (index_of w p) 0) (sym width)
      ∙ ap (λ i. get_or cells i 0) place in
      subst (λ v. R v (get_or cells k 0)) of_piece (subst (R (value_at piece p)) of_whole (alike p inside)))

-- ---- rows that are as wide as the image

module _ (rect : Rect) (whole : Raster) (filled : IsFilled whole) (fits : RectFits whole.width whole.height rect)
    (wide : rect.w ≡ whole.width) where
  pub full_rows_end : rect.y * whole.width + rect.h * whole.width ≤ length whole.cells
  full_rows_end =
      let rows : (rect.y + rect.h) * whole.width ≤ whole.height * whole.width =
      mul-le (rect.y + rect.h) whole.width whole.height whole.width fits.rows (omega arith) in
      omega (arith, rows, filled)

  -- they lie one behind another
  pub cells_of_full_rows : (start count : ℕ) → start ≡ rect.y * whole.width → count ≡ rect.h * whole.width
      → AreCellsIn rect whole (slice_range whole.cells start (start + count))
  cells_of_full_rows start count start_is count_is =
      let order : start ≤ start + count = omega arith in
      let within : start + count ≤ length whole.cells = omega (arith, start_is, count_is, full_rows_end) in
      let area : rect.w * rect.h ≡ whole.width * rect.h = ap (λ w. w * rect.h) wide in
      let size : start + count - start ≡ rect.w * rect.h = omega (arith, area, count_is) in
      record {
        width = refl;
        height = refl;
        filled = length_part whole.cells start (start + count) order within ∙ size;
        values = λ p inside.
            let place = index_of rect.w p in
            let below : place < start + count - start =
            omega (arith, mul-add-lt p.y rect.w p.x rect.h inside.1 inside.0, size) in
            let line : p.y * rect.w ≡ p.y * whole.width = ap (λ w. p.y * w) wide in
            let same : start + place ≡ index_of whole.width (in_image rect p) =
            omega (arith, line, start_is, fits.columns, wide) in
            get_or_part whole.cells start (start + count) order within place 0 below
            ∙ ap (λ k. get_or whole.cells k 0) same;
      }
