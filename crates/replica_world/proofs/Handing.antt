-- Hints that were there, or were not.
use Rattle.std.proofs.Common.{◌≡◌, ◌<◌, ℕ, length, refl, subst, ap, arith, inl, inr, Some, None}
use Rattle.std.proofs.{lemmas.Bool.cases_lt, lemmas.List.get_or_past}
use Rattle.std.proofs.lemmas.Option.{slice_get_within, slice_get_cases}
use Rattle.border_queues.specs.{declared.hint.Hint.Hint, TileWork.TileWork, TileWork.idle}
use Rattle.core_rules.specs.{declared.answers.Handed.Handed, Hints.IsHanded, Hints.hint_at}
use Rattle.core_rules.specs.declared.answers.Handed.TheVariants.{Raised, Same, Stale, Nothing}
use Rattle.core_rules.specs.Work.{Core, IsTile, work_at}

-- a tile with a hint is one of the image
is_tile : (core : Core) (t i : ℕ) → i < length (work_at core t).inbox → IsTile core t
is_tile core t i within = elim (cases_lt t (length core.tiles)) [
  | inl is ↦ is
  | inr past ↦
      let none = ap (λ (work : TileWork). length work.inbox) (get_or_past core.tiles t idle past) in
      absurd (omega (arith, within, none))
]

hint_within : (core : Core) (t i : ℕ) (hint : Hint) → hint_at core t i ≡ Some hint
    → IsTile core t × (i < length (work_at core t).inbox)
hint_within core t i hint there =
    let within = slice_get_within (work_at core t).inbox i hint there in
    (is_tile core t i within, within)

-- a hint that was handed over was there
pub hint_was_there : (before after : Core) (t i : ℕ) (handed : Handed) → IsHanded before t i handed after
    → (handed ≡ Nothing → ⊥) → IsTile before t × (i < length (work_at before t).inbox)
hint_was_there before after t i Nothing given some = absurd (some refl)
hint_was_there before after t i Raised (hint, there, present, above, same) some = hint_within before t i hint there
hint_was_there before after t i Same (hint, there, present, enough, same) some = hint_within before t i hint there
hint_was_there before after t i Stale (hint, there, old, same) some = hint_within before t i hint there

-- where nothing was handed over, there was no such hint
pub no_hint_there : (before after : Core) (t i : ℕ) (handed : Handed) → IsHanded before t i handed after
    → handed ≡ Nothing → i < length (work_at before t).inbox → ⊥
no_hint_there before after t i handed given nothing within =
    let none : hint_at before t i ≡ None = (subst (λ h. IsHanded before t i h after) nothing given).0 in
    elim (slice_get_cases (work_at before t).inbox i).1 [
      | inl (hint, inside, there, is) ↦ absurd (cc (there, none))
      | inr (past, missing) ↦ omega (arith, within, past)
    ]

-- and the core is as it was
pub nothing_handed : (before after : Core) (t i : ℕ) (handed : Handed) → IsHanded before t i handed after
    → handed ≡ Nothing → after ≡ before
nothing_handed before after t i handed given nothing = (subst (λ h. IsHanded before t i h after) nothing given).1
