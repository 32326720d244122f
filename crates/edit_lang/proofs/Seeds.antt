-- A seed is canonical or refused, and not both.
use Rattle.std.proofs.Common.{◌≡◌, ℕ, ◌+◌, ◌≤◌, List, [], ◌∷◌, length, arith, inl, inr, ◌⊎◌}
use Rattle.std.proofs.lemmas.Bool.{cases_lt, cases_eq}
use Rattle.stroke_core.specs.{declared.run.Run.Run, declared.error.StrokeError.StrokeError}
use Rattle.stroke_core.specs.Seed.{Seed, Shape, Runs, Disc, AreInOrder, IsBefore, AreOrdered, IsCanonical}
use Rattle.stroke_core.specs.Seed.{IsCanonicalShape, IsRefusal, IsShapeRefusal}
use Rattle.stroke_core.specs.declared.error.StrokeError.TheVariants as reasons

-- a canonical shape is not refused
shape_not_refused : (shape : Shape) (why : StrokeError) → IsCanonicalShape shape → IsShapeRefusal shape why → ⊥
shape_not_refused (Runs runs) reasons.NoRuns c r = omega (arith, c.0, r)
shape_not_refused (Runs runs) reasons.TooManyRuns c r = omega (arith, c.1, r)
shape_not_refused (Runs runs) reasons.RunOrder c r = r.2 c.2
shape_not_refused (Disc x y radius) reasons.BadRadius c r = omega (arith, c, r)
shape_not_refused shape why c r = r

-- a canonical seed is not refused
pub not_refused : (s : Seed) (why : StrokeError) → IsCanonical s → IsRefusal s why → ⊥
not_refused s reasons.BadLevel c (inl low) = omega (arith, c.level_low, low)
not_refused s reasons.BadLevel c (inr high) = omega (arith, c.level_high, high)
not_refused s why c r = shape_not_refused s.shape why c.shape r.2

-- two runs are in order or not
in_order_or_not : (a b : Run) → AreInOrder a b ⊎ (AreInOrder a b → ⊥)
in_order_or_not a b = elim (cases_lt a.y b.y) [
  | inl later ↦ inl (inl later)
  | inr not_later ↦ elim (cases_eq a.y b.y) [
    | inl same ↦ elim (cases_lt (a.x1 + 1) b.x0) [
      | inl apart ↦ inl (inr (same, apart))
      | inr near ↦ inr (λ h. elim h [ inl l ↦ omega arith | inr r ↦ omega (arith, r.1) ])
    ]
    | inr other ↦ inr (λ h. elim h [ inl l ↦ omega arith | inr r ↦ other r.0 ])
  ]
]

before_or_not : (r : Run) (rest : List Run) → IsBefore r rest ⊎ (IsBefore r rest → ⊥)
before_or_not r [] = inl tt
before_or_not r (next ∷ rest) = in_order_or_not r next

ordered_or_not : (runs : List Run) → AreOrdered runs ⊎ (AreOrdered runs → ⊥)
ordered_or_not [] = inl tt
ordered_or_not (r ∷ rest) = elim (cases_lt r.x1 r.x0) [
  | inl backward ↦ inr (λ h. omega (arith, h.0))
  | inr forward ↦ elim (before_or_not r rest) [
    | inl before ↦ elim (ordered_or_not rest) [
      | inl ordered ↦ inl (forward, before, ordered)
      | inr unordered ↦ inr (λ h. unordered h.2)
    ]
    | inr apart ↦ inr (λ h. apart h.1)
  ]
]

-- a shape is canonical, or there is a reason why not
shape_judged : (shape : Shape) → IsCanonicalShape shape ⊎ ((why : StrokeError) × IsShapeRefusal shape why)
shape_judged (Disc x y r) = elim (cases_lt 255 r) [
  | inl great ↦ inr (reasons.BadRadius, great)
  | inr small ↦ inl small
]
shape_judged (Runs runs) = elim (cases_lt 0 (length runs)) [
  | inr none ↦ inr (reasons.NoRuns, (let e : length runs ≡ 0 = omega arith in e))
  | inl some ↦ elim (cases_lt 160 (length runs)) [
    | inl many ↦ inr (reasons.TooManyRuns, many)
    | inr few ↦ elim (ordered_or_not runs) [
      | inl ordered ↦ inl (some, few, ordered)
      | inr unordered ↦ inr (reasons.RunOrder, (some, few, unordered))
    ]
  ]
]

-- a reason why the shape is refused is one why the seed is, where the level is in its range
seed_refused : (level : ℕ) (shape : Shape) (why : StrokeError) → 1 ≤ level → level ≤ 65535 → IsShapeRefusal shape why
    → (reason : StrokeError) × IsRefusal (record { level = level; shape = shape }) reason
seed_refused level (Runs runs) reasons.BadLevel low high r = absurd r
seed_refused level (Disc x y radius) reasons.BadLevel low high r = absurd r
seed_refused level shape why low high r = (why, (low, high, r))

-- a seed is canonical, or there is a reason why not
pub judged : (s : Seed) → IsCanonical s ⊎ ((why : StrokeError) × IsRefusal s why)
judged s = elim (cases_lt s.level 1) [
  | inl low ↦ inr (reasons.BadLevel, inl low)
  | inr level_low ↦ elim (cases_lt 65535 s.level) [
    | inl high ↦ inr (reasons.BadLevel, inr high)
    | inr level_high ↦ elim (shape_judged s.shape) [
      | inl canonical ↦ inl (record { level_low = level_low; level_high = level_high; shape = canonical })
      | inr refused ↦ inr (seed_refused s.level s.shape refused.0 level_low level_high refused.1)
    ]
  ]
]
