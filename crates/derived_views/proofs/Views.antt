-- Each view is one image, and what a regional maximum is in other words.
use Rattle.std.proofs.Common.{◌≡◌, ℕ, ◌≤◌, ◌∙◌, sym, arith, inl, inr, ◌↔◌}
use Rattle.std.proofs.lemmas.Bool.{cases_lt}
use Rattle.grid_core.specs.{declared.pixel.Pixel.Pixel, Neighbours.AreNeighbours, Path.Domain, Path.Inside}
use Rattle.derived_views.specs.Holes.{IsFill}
use Rattle.derived_views.specs.Plateaus.{IsOnPlateau, IsRegionalMaximum, IsRegionalMaxima}
use Rattle.derived_views.proofs.Climbing.{plateau_on, plateau_value}

-- the least level is one number
pub one_fill : (d : Domain) (image fill other : Pixel → ℕ) → IsFill d image fill → IsFill d image other → (p : Pixel)
    → Inside d p → fill p ≡ other p
one_fill d image fill other first second p inside = elim (cases_lt (fill p) (other p)) [
  | inl less ↦ absurd ((second p inside).1 (fill p) less (first p inside).0)
  | inr at_least ↦ elim (cases_lt (other p) (fill p)) [
    | inl greater ↦ absurd ((first p inside).1 (other p) greater (second p inside).0)
    | inr at_most ↦ omega arith
  ]
]

-- a pixel lies on a regional maximum or not
pub one_regional_maxima : (d : Domain) (image maxima other : Pixel → ℕ) → IsRegionalMaxima d image maxima
    → IsRegionalMaxima d image other → (p : Pixel) → Inside d p → maxima p ≡ other p
one_regional_maxima d image maxima other first second p inside = elim (first p inside) [
  | inl here ↦ elim (second p inside) [
    | inl too ↦ here.1 ∙ sym too.1
    | inr not ↦ absurd (not.0 here.0)
  ]
  | inr nowhere ↦ elim (second p inside) [
    | inl too ↦ absurd (nowhere.0 too.0)
    | inr not ↦ nowhere.1 ∙ sym not.1
  ]
]

-- beside a regional maximum no pixel is greater
none_greater : (d : Domain) (image : Pixel → ℕ) (p : Pixel) → IsRegionalMaximum d image p → (q r : Pixel)
    → IsOnPlateau d image p q → Inside d r → AreNeighbours d.conn q r → image r ≤ image p
none_greater d image p maximum q r on inside beside = elim (cases_lt (image p) (image r)) [
  | inl greater ↦
      let off = λ (its : IsOnPlateau d image p r).
      let same = plateau_value d image p r its in
      let no : ⊥ = omega (arith, same, greater) in no
      in
      let lower = maximum q r on inside beside off in
      absurd (omega (arith, lower, greater))
  | inr not_greater ↦ not_greater
]

-- a plateau beside which no pixel is greater is a regional maximum
lower_beside : (d : Domain) (image : Pixel → ℕ) (p : Pixel)
    → ((q r : Pixel) → IsOnPlateau d image p q → Inside d r → AreNeighbours d.conn q r → image r ≤ image p)
    → IsRegionalMaximum d image p
lower_beside d image p none q r on inside beside off = elim (cases_lt (image r) (image p)) [
  | inl lower ↦ lower
  | inr not_lower ↦
      let same : image r ≡ image p = omega (arith, not_lower, none q r on inside beside) in
      absurd (off (plateau_on d image p q r on inside beside same))
]

pub no_greater_beside : (d : Domain) (image : Pixel → ℕ) (p : Pixel)
    → IsRegionalMaximum d image p
    ↔ ((q r : Pixel) → IsOnPlateau d image p q → Inside d r → AreNeighbours d.conn q r → image r ≤ image p)
no_greater_beside d image p = (none_greater d image p, lower_beside d image p)
