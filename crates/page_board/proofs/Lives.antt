-- Which tags turn where a state grows.
use Rattle.std.proofs.Common.{◌≡◌, ℕ, ◌⊎◌, inl, inr, refl, sym, ◌∙◌, subst, Contains, Option, Some, None}
use Rattle.stroke_core.specs.Seed.{Seed}
use Rattle.stroke_lattice.specs.State.{State, HasStroke, IsLiveTag, IsJoin}
use Rattle.stroke_lattice.specs.Change.{Turnover, IsChange}
use Rattle.page_board.specs.Later.{HasSameStroke}
use Rattle.page_board.proofs.Decisions.{flag_decides}
use Rattle.std.specs.FinMap as map
use Rattle.std.specs.FinSet as set

-- ---- what can be decided

found_decides : (found : Option Seed) → ((seed : Seed) × (found ≡ Some seed)) ⊎ ((seed : Seed) → found ≡ Some seed → ⊥)
found_decides (Some seed) = inl (seed, refl)
found_decides None = inr (λ seed there. cc)

-- a tag is live or not
pub live_decides : (s : State) (tag : ℕ) → IsLiveTag s tag ⊎ (IsLiveTag s tag → ⊥)
live_decides s tag = elim (flag_decides (set.contains s.tombstones tag)) [
  | inl gone ↦ inr (λ live. live.1.1 gone)
  | inr stays ↦ elim (found_decides (map.get s.strokes tag)) [
    | inl found ↦ inl (found.0, (found.1, stays))
    | inr none ↦ inr (λ live. none live.0 live.1.0)
  ]
]

-- ---- what a change tells

module _ (before delta after : State) (turnover : Turnover) (join : IsJoin before delta after)
    (change : IsChange before after turnover) (tag : ℕ) where
  -- where the tag is live before and after, it has the same stroke
  live_in_both : IsLiveTag before tag → IsLiveTag after tag → HasSameStroke before after tag
  live_in_both was is seed = (
    λ live. (join.first.strokes tag seed live.0, is.1.1),
    λ live.
        let same : was.0 ≡ seed = cc (sym (join.first.strokes tag was.0 was.1.0) ∙ live.0) in
        (subst (HasStroke before tag) same was.1.0, was.1.1),
  )

  -- a tag turned, or has the same stroke
  pub turned_or_same : (Contains turnover.born tag ⊎ Contains turnover.dead tag) ⊎ HasSameStroke before after tag
  turned_or_same = elim (live_decides before tag) [
    | inl was ↦ elim (live_decides after tag) [
      | inl is ↦ inr (live_in_both was is)
      | inr gone ↦ inl (inr ((change.dead tag).1 (was, gone)))
    ]
    | inr was_not ↦ elim (live_decides after tag) [
      | inl is ↦ inl (inl ((change.born tag).1 (is, was_not)))
      | inr is_not ↦ inr (λ seed. (λ live. absurd (was_not (seed, live)), λ live. absurd (is_not (seed, live))))
    ]
  ]

  -- a live tag was born, or was live before
  pub born_or_old : IsLiveTag after tag → Contains turnover.born tag ⊎ IsLiveTag before tag
  born_or_old live = elim (live_decides before tag) [
    | inl was ↦ inr was
    | inr was_not ↦ inl ((change.born tag).1 (live, was_not))
  ]
