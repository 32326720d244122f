-- Sets of tiles: what is in them, also once a tile is put in or taken out.
use Rattle.std.proofs.Common.{◌≡◌, ℕ, ◌<◌, ◌⊎◌, inl, inr, Bool, true, false, List, length, get_or, set, replicate, ap}
use Rattle.std.proofs.Common.{sym, ◌∙◌, subst, ◌↔◌}
use Rattle.std.proofs.lemmas.Bool.{cases_eq, cases_lt, cases_Bool}
use Rattle.std.proofs.lemmas.List.{get_or-set_same, get_or-set_other, get_or_past, get_or-replicate, ext_get_or}
use Rattle.std.proofs.Math.ListN.{length-replicate}
use Rattle.tile_work.specs.TileSet.{Has}

-- ---- what is in a set

not_both : (b : Bool) → b ≡ true → b ≡ false → ⊥
not_both b held gone = let e : true ≡ false = sym held ∙ gone in cc

-- what is read as true is there
pub is_there : (xs : List Bool) (t : ℕ) → get_or xs t false ≡ true → Has xs t
is_there xs t held = elim (cases_lt t (length xs)) [
  | inl within ↦ (within, held)
  | inr past ↦ absurd (not_both (get_or xs t false) held (get_or_past xs t false past))
]

pub cases_has : (xs : List Bool) (t : ℕ) → Has xs t ⊎ (Has xs t → ⊥)
cases_has xs t = elim (cases_Bool (get_or xs t false)) [
  | inl held ↦ inl (is_there xs t held)
  | inr gone ↦ inr (λ has. not_both (get_or xs t false) has.1 gone)
]

pub not_has_false : (xs : List Bool) (t : ℕ) → (Has xs t → ⊥) → get_or xs t false ≡ false
not_has_false xs t none = elim (cases_Bool (get_or xs t false)) [
  | inl held ↦ absurd (none (is_there xs t held))
  | inr gone ↦ gone
]

pub replicate_has_none : (n t : ℕ) → Has (replicate n false) t → ⊥
replicate_has_none n t has =
    let within : t < n = subst (λ m. t < m) (length-replicate n false) has.0 in
    not_both (get_or (replicate n false) t false) has.1 (get_or-replicate n t false false within)

-- a set with no tile is the empty one
pub none_is_replicate : (xs : List Bool) (n : ℕ) → length xs ≡ n → ((t : ℕ) → Has xs t → ⊥) → xs ≡ replicate n false
none_is_replicate xs n long none =
    let same : length xs ≡ length (replicate n false) = long ∙ sym (length-replicate n false) in
    ext_get_or false xs (replicate n false) same (λ t within.
    let below : t < n = subst (λ m. t < m) long within in
    not_has_false xs t (none t) ∙ sym (get_or-replicate n t false false below))

-- ---- one tile put in or taken out

module _ (xs : List Bool) (i : ℕ) (within : i < length xs) where
  pub put_has : (t : ℕ) → Has (set xs i true) t ↔ (Has xs t ⊎ (t ≡ i))
  put_has t = (
    λ has. elim (cases_eq t i) [
      | inl same ↦ inr same
      | inr other ↦ inl (is_there xs t (sym (get_or-set_other xs i t true false other) ∙ has.1))
    ],
    λ either. elim either [
      | inl has ↦ elim (cases_eq t i) [
        | inl same ↦ is_there (set xs i true) t (ap (λ j. get_or (set xs i true) j false) same
            ∙ get_or-set_same xs i true false within)
        | inr other ↦ is_there (set xs i true) t (get_or-set_other xs i t true false other ∙ has.1)
      ]
      | inr same ↦ is_there (set xs i true) t (ap (λ j. get_or (set xs i true) j false) same
          ∙ get_or-set_same xs i true false within)
    ],
  )

  pub taken_has : (t : ℕ) → Has (set xs i false) t ↔ (Has xs t × (t ≡ i → ⊥))
  taken_has t = (
    λ has. elim (cases_eq t i) [
      | inl same ↦ absurd (not_both (get_or (set xs i false) t false) has.1
          (ap (λ j. get_or (set xs i false) j false) same ∙ get_or-set_same xs i false false within))
      | inr other ↦ (is_there xs t (sym (get_or-set_other xs i t false false other) ∙ has.1), other)
    ],
    λ both. is_there (set xs i false) t (get_or-set_other xs i t false false both.1 ∙ both.0.1),
  )
