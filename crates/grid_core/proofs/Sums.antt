-- Sums over numbers and over pixels.
use Rattle.std.proofs.Common.{◌≡◌, ℕ, zero, suc, ◌<◌, ◌≤◌, subst, arith, inl, inr}
use Rattle.std.proofs.lemmas.Bool.{cases_eq}
use Rattle.grid_core.specs.{declared.pixel.Pixel.Pixel, Path.Domain, Path.Inside, Owed.sum_below, Owed.sum_over}

-- ---- over numbers

pub sum_below-le : (f g : ℕ → ℕ) (n : ℕ) → ((k : ℕ) → k < n → f k ≤ g k) → sum_below f n ≤ sum_below g n
sum_below-le f g zero le = omega arith
sum_below-le f g (suc n) le =
    let rest : sum_below f n ≤ sum_below g n = sum_below-le f g n (λ k within. le k (omega (arith, within))) in
    let last : f n ≤ g n = le n (omega arith) in
    omega (arith, rest, last)

pub sum_below-less : (f g : ℕ → ℕ) (n k : ℕ) → ((i : ℕ) → i < n → f i ≤ g i) → k < n → f k < g k
    → sum_below f n < sum_below g n
sum_below-less f g zero k le within less = absurd (omega (arith, within))
sum_below-less f g (suc n) k le within less =
    let last : f n ≤ g n = le n (omega arith) in
    elim (cases_eq k n) [
      | inl here ↦
          let rest : sum_below f n ≤ sum_below g n = sum_below-le f g n (λ i within. le i (omega (arith, within))) in
          let at_n : f n < g n = subst (λ i. f i < g i) here less in
          omega (arith, rest, at_n)
      | inr other ↦
          let rest : sum_below f n < sum_below g n =
          sum_below-less f g n k (λ i within. le i (omega (arith, within))) (omega (arith, within, other)) less in
          omega (arith, rest, last)
    ]

pub sum_below-zero : (f : ℕ → ℕ) (n : ℕ) → ((k : ℕ) → k < n → f k ≡ 0) → sum_below f n ≡ 0
sum_below-zero f zero none = omega arith
sum_below-zero f (suc n) none =
    let rest : sum_below f n ≡ 0 = sum_below-zero f n (λ k within. none k (omega (arith, within))) in
    let last : f n ≡ 0 = none n (omega arith) in
    omega (arith, rest, last)

-- ---- over pixels

-- the sum over the pixels of a row
abbrev row_sum : Domain → (Pixel → ℕ) → ℕ → ℕ
row_sum d f y = sum_below (λ x. f (record { x = x; y = y })) d.width

pub sum_over-le : (d : Domain) (f g : Pixel → ℕ) → ((p : Pixel) → Inside d p → f p ≤ g p)
    → sum_over d f ≤ sum_over d g
sum_over-le d f g le =
    sum_below-le (row_sum d f) (row_sum d g) d.height (λ y row.
    sum_below-le (λ x. f (record { x = x; y = y })) (λ x. g (record { x = x; y = y })) d.width (λ x column.
    le (record { x = x; y = y }) (column, row)))

pub sum_over-less : (d : Domain) (f g : Pixel → ℕ) (q : Pixel) → ((p : Pixel) → Inside d p → f p ≤ g p)
    → Inside d q → f q < g q → sum_over d f < sum_over d g
sum_over-less d f g q le inside less =
    sum_below-less (row_sum d f) (row_sum d g) d.height q.y (λ y row.
    sum_below-le (λ x. f (record { x = x; y = y })) (λ x. g (record { x = x; y = y })) d.width (λ x column.
    le (record { x = x; y = y }) (column, row))) inside.1
    (sum_below-less (λ x. f (record { x = x; y = q.y })) (λ x. g (record { x = x; y = q.y })) d.width q.x (λ x column.
    le (record { x = x; y = q.y }) (column, inside.1)) inside.0 less)

pub sum_over-zero : (d : Domain) (f : Pixel → ℕ) → ((p : Pixel) → Inside d p → f p ≡ 0) → sum_over d f ≡ 0
sum_over-zero d f none =
    sum_below-zero (row_sum d f) d.height (λ y row.
    sum_below-zero (λ x. f (record { x = x; y = y })) d.width (λ x column.
    none (record { x = x; y = y }) (column, row)))

pub sum_over-same : (d : Domain) (f g : Pixel → ℕ) → ((p : Pixel) → Inside d p → f p ≡ g p)
    → sum_over d f ≡ sum_over d g
sum_over-same d f g same =
    let le = sum_over-le d f g (λ p inside. let e = same p inside in omega (arith, e)) in
    let ge = sum_over-le d g f (λ p inside. let e = same p inside in omega (arith, e)) in
    omega (arith, le, ge)
