-- The rows of an image put together one after the other.
use Rattle.std.proofs.Common.{◌≡◌, ℕ, ◌+◌, ◌-◌, ◌*◌, ◌<◌, ◌≤◌, List, ◌++◌, length, length-append, get_or, sym, ap, ◌∙◌}
use Rattle.std.proofs.Common.{arith, inl, inr}
use Rattle.std.proofs.{Math.Nat.mul-le-mul_right, lemmas.Bool.cases_lt}
use Rattle.std.proofs.lemmas.List.{get_or_append_left, get_or-append_right}
use Rattle.grid_core.specs.{declared.pixel.Pixel.Pixel, Rects.IsRowOf}

-- the cells are the first rows
abbrev pub AreRows : ℕ → (Pixel → ℕ) → ℕ → List ℕ → Type 0
AreRows width image rows cells =
    (length cells ≡ rows * width)
    × ((p : Pixel) → p.x < width → p.y < rows → get_or cells (p.y * width + p.x) 0 ≡ image p)

pub rows_more : (width : ℕ) (image : Pixel → ℕ) (y : ℕ) (row old new : List ℕ) → AreRows width image y old
    → IsRowOf width image y row → new ≡ old ++ row → AreRows width image (y + 1) new
rows_more width image y row old new so_far is_row new_is =
    let count = is_row.long in (
      ap length new_is ∙ length-append old row ∙ (omega (arith, count, so_far.0)),
      λ p column earlier. ap (λ cells. get_or cells (p.y * width + p.x) 0) new_is ∙ elim (cases_lt p.y y) [
        | inl before ↦
            let rows : (p.y + 1) * width ≤ y * width = mul-le-mul_right width (omega arith) in
            let short : p.y * width + p.x < length old = omega (arith, rows, so_far.0) in
            get_or_append_left old row 0 (p.y * width + p.x) short ∙ so_far.1 p column before
        | inr not_before ↦
            let here : p.y ≡ y = omega arith in
            let place : p.y * width ≡ y * width = ap (λ k. k * width) here in
            let past : y * width ≤ p.y * width + p.x = omega (arith, place) in
            let at : p.y * width + p.x - y * width ≡ p.x = omega (arith, place) in
            get_or-append_right old row (y * width) (p.y * width + p.x) 0 so_far.0 past
            ∙ ap (λ k. get_or row k 0) at
            ∙ is_row.values p.x column
            ∙ ap (λ v. image (record { x = p.x; y = v })) (sym here)
      ],
    )
