-- The four cells beside a cell are those of the neighbours of its pixel.
use Rattle.std.proofs.Common.{◌≡◌, ℕ, ◌+◌, ◌-◌, ◌*◌, ◌<◌, ◌≤◌, ◌⊎◌, Option, None, Some, ap, arith, inl, inr, subst, sym}
use Rattle.std.proofs.lemmas.Bool.{cases_order}
use Rattle.grid_core.specs.{declared.conn.Conn.TheVariants.Four, declared.pixel.Pixel.Pixel, declared.rect.Rect.Rect}
use Rattle.grid_core.specs.{Neighbours.AreNeighbours, Raster.IsInside}
use Rattle.grid_core.proofs.Pixels.{same_pixel}
use Rattle.raster_sweeps.specs.{declared.neighbourhood.Cross.Cross, declared.neighbourhood.Neighbour.Neighbour}
use Rattle.raster_sweeps.specs.Beside.{IsAbove, IsLeft, IsRight, IsUnder}
use Rattle.raster_sweeps.specs.Growth.{cell_of}
use Rattle.raster_sweeps.specs.Spans.{AreAround, IsCell, IsOnCross}

-- the cell of one direction is that of the one pixel there, if the rectangle has it
pub record IsArm (rect : Rect) (width : ℕ) (p : Pixel) (is_there : Pixel → Type 0) (cell : Option Neighbour)
    : Type 0 where
  pub each : (k : ℕ) → IsCell cell k
      → (q : Pixel) × IsInside rect.w rect.h q × (cell_of rect width q ≡ k) × AreNeighbours Four p q
  pub every : (q : Pixel) → IsInside rect.w rect.h q → is_there q → IsCell cell (cell_of rect width q)

-- there is such a pixel
pub arm : {rect : Rect} {width : ℕ} {p : Pixel} {is_there : Pixel → Type 0} (q : Pixel) {cell : Option Neighbour}
    {place : Neighbour}
    → IsInside rect.w rect.h q → AreNeighbours Four p q → ((r : Pixel) → is_there r → r ≡ q)
    → cell ≡ Some place → cell_of rect width q ≡ place.cell → IsArm rect width p is_there cell
arm {rect} {width} q {place} inside near only is at = record {
  each = λ i here. (q, inside, omega (arith, at, subst (λ one. IsCell one i) is here), near);
  every = λ r inside_r there.
      subst (λ one. IsCell one (cell_of rect width r)) (sym is)
      (subst (λ s. cell_of rect width s ≡ place.cell) (sym (only r there)) at);
}

-- there is none
pub no_arm : {rect : Rect} {width : ℕ} {p : Pixel} {is_there : Pixel → Type 0} {cell : Option Neighbour}
    → cell ≡ None → ((q : Pixel) → IsInside rect.w rect.h q → is_there q → ⊥) → IsArm rect width p is_there cell
no_arm is none = record {
  each = λ i here. absurd (subst (λ one. IsCell one i) is here);
  every = λ q inside there. absurd (none q inside there);
}

-- a neighbour lies in one of the four directions
pub directions : (p q : Pixel) → AreNeighbours Four p q → (IsAbove p q ⊎ IsLeft p q) ⊎ (IsRight p q ⊎ IsUnder p q)
directions p q near =
    elim (cases_order q.y p.y) [
      | inl row ↦ elim (cases_order q.x p.x) [
        | inl column ↦ absurd (omega (arith, near, row, column))
        | inr other ↦ elim other [
          | inl less ↦ inl (inr (omega (arith, near, row, less), row))
          | inr more ↦ inr (inl (omega (arith, near, row, more), row))
        ]
      ]
      | inr other ↦ elim other [
        | inl less ↦ inl (inl (omega (arith, near, less), omega (arith, near, less)))
        | inr more ↦ inr (inr (omega (arith, near, more), omega (arith, near, more)))
      ]
    ]

-- four directions make a cross
cross_of : {rect : Rect} {width : ℕ} {p : Pixel} {cross : Cross}
    → IsArm rect width p (IsAbove p) cross.above → IsArm rect width p (IsLeft p) cross.left
    → IsArm rect width p (IsRight p) cross.right → IsArm rect width p (IsUnder p) cross.below
    → AreAround Four rect width p (IsOnCross cross)
cross_of {p} above left right below = record {
  each = λ k here. elim here [
    | inl first ↦ elim first [
      | inl at ↦ let q = above.each k at in (q.0, q.1, q.2, inr q.3)
      | inr at ↦ let q = left.each k at in (q.0, q.1, q.2, inr q.3)
    ]
    | inr second ↦ elim second [
      | inl at ↦ let q = right.each k at in (q.0, q.1, q.2, inr q.3)
      | inr at ↦ let q = below.each k at in (q.0, q.1, q.2, inr q.3)
    ]
  ];
  every = λ q inside near. elim (directions p q near) [
    | inl first ↦ elim first [
      | inl at ↦ inl (inl (above.every q inside at))
      | inr at ↦ inl (inr (left.every q inside at))
    ]
    | inr second ↦ elim second [
      | inl at ↦ inr (inl (right.every q inside at))
      | inr at ↦ inr (inr (below.every q inside at))
    ]
  ];
}

-- the place there is has this cell
abbrev pub IsPlaceOf : Option Neighbour → ℕ → Type 0
IsPlaceOf there cell = (row : ℕ) × (there ≡ Some (record { cell = cell; row = row }))

-- where each direction was tested, and its cell taken from that of the pixel, they make a cross
pub crossed : (rect : Rect) (width cell : ℕ) (p : Pixel) (cross : Cross) → IsInside rect.w rect.h p
    → cell_of rect width p ≡ cell
    → ((0 < p.y) × IsPlaceOf cross.above (cell - width)) ⊎ ((p.y ≡ 0) × (cross.above ≡ None))
    → ((0 < p.x) × IsPlaceOf cross.left (cell - 1)) ⊎ ((p.x ≡ 0) × (cross.left ≡ None))
    → ((p.x + 1 < rect.w) × IsPlaceOf cross.right (cell + 1)) ⊎ ((rect.w ≤ p.x + 1) × (cross.right ≡ None))
    → ((p.y + 1 < rect.h) × IsPlaceOf cross.below (cell + width)) ⊎ ((rect.h ≤ p.y + 1) × (cross.below ≡ None))
    → AreAround Four rect width p (IsOnCross cross)
crossed rect width cell p cross inside place above left right below =
    cross_of (elim above [
      | inl is ↦
          let up : Pixel = record { x = p.x; y = p.y - 1 } in
          let next : up.y + 1 ≡ p.y = omega (arith, is.0) in
          let start : (rect.y + (up.y + 1)) * width ≡ (rect.y + p.y) * width = ap (λ r. (rect.y + r) * width) next in
          arm up (inside.0, omega (arith, inside.1)) (omega (arith, next))
          (λ r there. same_pixel r up there.0 (omega (arith, there.1, next))) is.1.1 (omega (arith, place, start))
      | inr is ↦ no_arm is.1 (λ q inside_q there. omega (arith, there.1, is.0))
    ])
    (elim left [
      | inl is ↦
          let beside : Pixel = record { x = p.x - 1; y = p.y } in
          arm beside (omega (arith, inside.0), inside.1) (omega (arith, is.0))
          (λ r there. same_pixel r beside (omega (arith, there.0)) there.1) is.1.1 (omega (arith, place, is.0))
      | inr is ↦ no_arm is.1 (λ q inside_q there. omega (arith, there.0, is.0))
    ])
    (elim right [
      | inl is ↦
          let beside : Pixel = record { x = p.x + 1; y = p.y } in
          arm beside (is.0, inside.1) (omega arith) (λ r there. same_pixel r beside there.0 there.1) is.1.1
          (omega (arith, place))
      | inr is ↦
          no_arm is.1 (λ q inside_q there. omega (arith, there.0, is.0, inside_q.0))
    ])
    (elim below [
      | inl is ↦
          let down : Pixel = record { x = p.x; y = p.y + 1 } in
          arm down (inside.0, is.0) (omega arith) (λ r there. same_pixel r down there.0 there.1) is.1.1
          (omega (arith, place))
      | inr is ↦
          no_arm is.1 (λ q inside_q there. omega (arith, there.1, is.0, inside_q.1))
    ])
