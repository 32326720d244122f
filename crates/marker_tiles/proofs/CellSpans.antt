-- Cells that are changed between two places of one row, as the pixels of a span.
use Rattle.std.proofs.Common.{◌≡◌, ℕ, ◌+◌, ◌*◌, ◌<◌, ◌≤◌, true, false, length, ap, sym, ◌∙◌, arith, inl, inr}
use Rattle.std.proofs.Common.{slice_index, if◌then◌else◌}
use Rattle.std.proofs.{Math.Nat.mul-le-mul_right, lemmas.Bool.cases_lt, lemmas.Bool.Decides.nat_tests}
use Rattle.std.proofs.lemmas.Nat.{mul-add-lt}
use Rattle.grid_core.specs.{declared.pixel.Pixel.Pixel, Rects.AreCellsChanged}
use Rattle.grid_core.specs.Raster.{Raster, IsInside, IsFilled, index_of, value_at}
use Rattle.grid_core.proofs.Cells.{index_of-within}
use Rattle.marker_tiles.specs.Painting.{is_between}

module _ (y first end from to : ℕ) (value : ℕ → ℕ) (old new : Raster) (filled : IsFilled old)
    (columns : end ≤ old.width) (from_is : from ≡ y * old.width + first) (to_is : to ≡ y * old.width + end)
    (cells : AreCellsChanged from to value old new) (p : Pixel) (inside : IsInside old.width old.height p) where
  new_at : value_at new p ≡ slice_index new.cells (index_of old.width p)
  new_at = ap (λ w. slice_index new.cells (index_of w p)) cells.width

  within_old : index_of old.width p < length old.cells
  within_old = index_of-within old p filled inside

  -- a pixel of the span
  cell_in_span : is_between y first end p ≡ true
      → value_at new p ≡ (if is_between y first end p then value (index_of old.width p) else value_at old p)
  cell_in_span between =
      let row : p.y ≡ y = grind (arith, nat_tests) in
      let above : first ≤ p.x = grind (arith, nat_tests) in
      let below : p.x < end = grind (arith, nat_tests) in
      let start : p.y * old.width ≡ y * old.width = ap (λ k. k * old.width) row in
      new_at ∙ cells.inside (index_of old.width p) (omega arith) (omega arith)
      ∙ ap (λ t. if t then value (index_of old.width p) else value_at old p) (sym between)

  -- a pixel beside it
  cell_beside : is_between y first end p ≡ false
      → slice_index new.cells (index_of old.width p) ≡ slice_index old.cells (index_of old.width p)
      → value_at new p ≡ (if is_between y first end p then value (index_of old.width p) else value_at old p)
  cell_beside beside same =
      new_at ∙ same ∙ ap (λ t. if t then value (index_of old.width p) else value_at old p) (sym beside)

  pub cell_of_span : value_at new p
      ≡ (if is_between y first end p then value (index_of old.width p) else value_at old p)
  cell_of_span = elim (cases_lt p.y y) [
    | inl earlier ↦
        let before : p.y * old.width + p.x < y * old.width =
        omega (arith, mul-add-lt p.y old.width p.x y earlier inside.0) in
        cell_beside (grind (arith, nat_tests)) (cells.before (index_of old.width p) (omega arith))
    | inr not_earlier ↦ elim (cases_lt y p.y) [
      | inl later ↦
          let next : y + 1 ≤ p.y = omega arith in
          let rows : (y + 1) * old.width ≤ p.y * old.width = mul-le-mul_right old.width next in
          cell_beside (grind (arith, nat_tests)) (cells.after (index_of old.width p) (omega (arith, rows)) within_old)
      | inr not_later ↦
          let row : p.y ≡ y = omega arith in
          let start : p.y * old.width ≡ y * old.width = ap (λ k. k * old.width) row in
          elim (cases_lt p.x first) [
            | inl left ↦ cell_beside (grind (arith, nat_tests)) (cells.before (index_of old.width p) (omega arith))
            | inr not_left ↦ elim (cases_lt p.x end) [
              | inl here ↦ cell_in_span (grind (arith, nat_tests))
              | inr right ↦
                  cell_beside (grind (arith, nat_tests)) (cells.after (index_of old.width p) (omega arith) within_old)
            ]
          ]
    ]
  ]
