-- Rows of images compared and raised one after the other.
use Rattle.std.proofs.Common.{◌≡◌, ℕ, ◌+◌, ◌-◌, ◌*◌, ◌<◌, ◌≤◌, max, List, length, get_or, sym, ap, ◌∙◌, arith, inl, inr}
use Rattle.std.proofs.{lemmas.Nat.mul-add-lt, lemmas.Bool.cases_lt}
use Rattle.grid_core.specs.{declared.pixel.Pixel.Pixel, declared.rect.Rect.Rect}
use Rattle.grid_core.specs.Raster.{Raster, IsInside, index_of, value_at}
use Rattle.grid_core.specs.Rects.{RectFits, IsRowOf, AreCellsChanged, in_image}
use Rattle.core_rules.specs.Image.{IsJoinedWith}
use Rattle.reset_core.specs.Parts.{IsBelowPiece, raised_from}

-- ---- rows compared

-- the rows so far are related pixel by pixel
abbrev pub AreAlike : (ℕ → ℕ → Type 0) → ℕ → (Pixel → ℕ) → (Pixel → ℕ) → ℕ → Type 0
AreAlike R width f g rows = (p : Pixel) → p.x < width → p.y < rows → R (f p) (g p)

-- the rows are related cell by cell
abbrev pub AreRelated : (ℕ → ℕ → Type 0) → List ℕ → List ℕ → Type 0
AreRelated R a b = (k : ℕ) → k < length a → R (get_or a k 0) (get_or b k 0)

module _ (R : ℕ → ℕ → Type 0) (width : ℕ) (f g : Pixel → ℕ) (y : ℕ) (a b : List ℕ) (row_a : IsRowOf width f y a)
    (row_b : IsRowOf width g y b) where
  pub alike_more : AreAlike R width f g y → AreRelated R a b → AreAlike R width f g (y + 1)
  alike_more so_far related p column earlier = elim (cases_lt p.y y) [
    | inl before ↦ so_far p column before
    | inr not_before ↦
        let here : y ≡ p.y = omega arith in
        rw (row_b.values p.x column, row_a.values p.x column, here) at
        (related p.x (omega (arith, row_a.long, column)))
  ]

  pub related_row : (rows : ℕ) → AreAlike R width f g rows → y < rows → AreRelated R a b
  related_row rows alike within k below =
      let column : k < width = omega (arith, row_a.long, below) in
      rw (row_a.values k column, row_b.values k column) (alike (record { x = k; y = y }) column within)

-- ---- cells raised

module _ (start : ℕ) (values : List ℕ) (old new : Raster)
    (raised : AreCellsChanged start (start + length values) (raised_from start values old.cells) old new) where
  at_new : (p : Pixel) → value_at new p ≡ get_or new.cells (index_of old.width p) 0
  at_new p = ap (λ w. get_or new.cells (index_of w p) 0) raised.width

  -- a pixel that stands beside these cells keeps its value
  pub beside_raised : (p : Pixel) → index_of old.width p < length old.cells
      → ((k : ℕ) → k < length values → start + k ≡ index_of old.width p → ⊥) → value_at new p ≡ value_at old p
  beside_raised p within beside = at_new p ∙ elim (cases_lt (index_of old.width p) start) [
    | inl before ↦ raised.before (index_of old.width p) before
    | inr from ↦ elim (cases_lt (index_of old.width p) (start + length values)) [
      | inl here ↦ absurd (beside (index_of old.width p - start) (omega (arith, from, here)) (omega (arith, from)))
      | inr past ↦ raised.after (index_of old.width p) past within
    ]
  ]

  pub value_raised : (p : Pixel) (k : ℕ) → k < length values → start + k ≡ index_of old.width p
      → value_at new p ≡ max (value_at old p) (get_or values k 0)
  value_raised p k within place =
      let back : start + k - start ≡ k = omega arith in
      at_new p ∙ rw place at (raised.inside (start + k) (omega arith) (omega (arith, within))
      ∙ ap (λ i. max (get_or old.cells (start + k) 0) (get_or values i 0)) back)

-- ---- rows of a rectangle raised

-- where the piece is nowhere below the image, the cells of a row that is still as it was are not above its values
pub row_below : (rect : Rect) (piece old mid : Raster) (y start : ℕ) (row : List ℕ)
    → RectFits old.width old.height rect → y < rect.h → IsRowOf rect.w (value_at piece) y row
    → start ≡ (rect.y + y) * mid.width + rect.x → IsJoinedWith (record rect { h = y }) piece old mid
    → IsBelowPiece rect old piece → (k : ℕ) → k < length row → get_or mid.cells (start + k) 0 ≤ get_or row k 0
row_below rect piece old mid y start row fits below is_row start_is so_far above k within =
    let p : Pixel = record { x = k; y = y } in
    let q = in_image rect p in
    let column : k < rect.w = omega (arith, is_row.long, within) in
    let inside : IsInside old.width old.height q = omega (arith, fits.columns, fits.rows) in
    let place : start + k ≡ index_of mid.width q = omega (arith, start_is) in
    let was : value_at mid q ≡ value_at old q = so_far.beyond q inside (λ found. omega (arith, found.3)) in
    rw place (omega (arith, was, above p (column, below), is_row.values k column))

module _ (rect : Rect) (piece old mid new : Raster) (y start : ℕ) (row : List ℕ)
    (fits : RectFits old.width old.height rect) (below : y < rect.h)
    (is_row : IsRowOf rect.w (value_at piece) y row) (start_is : start ≡ (rect.y + y) * mid.width + rect.x)
    (raised : AreCellsChanged start (start + length row) (raised_from start row mid.cells) mid new)
    (so_far : IsJoinedWith (record rect { h = y }) piece old mid) where
  -- the place of a pixel of the image
  place_within : (q : Pixel) → IsInside old.width old.height q → index_of mid.width q < length mid.cells
  place_within q inside =
      let below_end : q.y < mid.height = omega (arith, inside.1, so_far.size.height) in
      let across : q.x < mid.width = omega (arith, inside.0, so_far.size.width) in
      omega (arith, mul-add-lt q.y mid.width q.x mid.height below_end across, so_far.size.filled)

  -- the pixels that are not on this row of the rectangle keep their values
  off_row : (q : Pixel) → IsInside old.width old.height q
      → (rect.x ≤ q.x → q.x < rect.x + rect.w → q.y ≡ rect.y + y → ⊥) → value_at new q ≡ value_at mid q
  off_row q inside off =
      let width = so_far.size.width in
      let count = is_row.long in
      beside_raised start row mid new raised q (place_within q inside) (λ k within same.
      elim (cases_lt q.y (rect.y + y)) [
        | inl above ↦
            let before_row = mul-add-lt q.y mid.width q.x (rect.y + y) above (omega (arith, inside.0, width)) in
            omega (arith, before_row, same, start_is)
        | inr not_above ↦ elim (cases_lt (rect.y + y) q.y) [
          | inl under ↦
              let column : rect.x + k < mid.width = omega (arith, within, count, fits.columns, width) in
              omega (arith, mul-add-lt (rect.y + y) mid.width (rect.x + k) q.y under column, same, start_is)
          | inr not_under ↦
              let here : q.y ≡ rect.y + y = omega (arith, not_above, not_under) in
              let line : q.y * mid.width ≡ (rect.y + y) * mid.width = ap (λ n. n * mid.width) here in
              let column : q.x ≡ rect.x + k = omega (arith, line, same, start_is) in
              off (omega (arith, column)) (omega (arith, column, within, count)) here
        ]
      ])

  -- a row more
  pub joined_more : IsJoinedWith (record rect { h = y + 1 }) piece old new
  joined_more =
      let inside_old : (p : Pixel) → IsInside rect.w (y + 1) p → IsInside old.width old.height (in_image rect p) =
      λ p inside. (omega (arith, inside.0, fits.columns), omega (arith, inside.1, below, fits.rows)) in
      record {
        size = record {
          width = raised.width ∙ so_far.size.width;
          height = raised.height ∙ so_far.size.height;
          filled =
              raised.count ∙ so_far.size.filled
              ∙ sym (ap (λ n. n * new.height) raised.width ∙ ap (λ n. mid.width * n) raised.height);
        };
        within = λ p inside. elim (cases_lt p.y y) [
          | inl before ↦
              off_row (in_image rect p) (inside_old p inside) (λ from to same. omega (arith, before, same))
              ∙ so_far.within p (inside.0, before)
          | inr not_before ↦
              let here : p.y ≡ y = omega (arith, inside.1, not_before) in
              let line : (rect.y + p.y) * mid.width ≡ (rect.y + y) * mid.width =
              ap (λ n. (rect.y + n) * mid.width) here in
              let place : start + p.x ≡ index_of mid.width (in_image rect p) = omega (arith, start_is, line) in
              let raise = value_raised start row mid new raised (in_image rect p) p.x
              (omega (arith, is_row.long, inside.0)) place in
              let was : value_at mid (in_image rect p) ≡ value_at old (in_image rect p) =
              so_far.beyond (in_image rect p) (inside_old p inside) (λ found. omega (arith, found.3, here)) in
              let value : get_or row p.x 0 ≡ value_at piece p =
              is_row.values p.x inside.0 ∙ ap (λ n. value_at piece (record { x = p.x; y = n })) (sym here) in
              raise ∙ ap (λ v. max v (get_or row p.x 0)) was ∙ ap (λ v. max (value_at old (in_image rect p)) v) value
        ];
        beyond = λ q inside outside.
            off_row q inside (λ from to same. outside (from, to, omega (arith, same), omega (arith, same)))
            ∙ so_far.beyond q inside (λ found. outside (found.0, found.1, found.2, omega (arith, found.3)));
      }
