-- Lists from which elements are taken out: one at a place, or those that fail a test.
use Rattle.std.proofs.Common.{◌≡◌, ℕ, zero, suc, ◌+◌, ◌-◌, ◌<◌, Bool, true, false, List, [], ◌∷◌, length, get_or, sym}
use Rattle.std.proofs.Common.{◌∙◌, ap, subst, arith, inl, inr, ◌⊎◌, map, Some, slice_get, remove, Contains, filter}
use Rattle.std.proofs.Common.{cond}
use Rattle.std.proofs.{lemmas.Bool.cases_lt, lemmas.Bool.cases_eq, lemmas.Option.slice_get_within}
use Rattle.std.proofs.{lemmas.Option.get_or_from_slice_get, lemmas.List.get_or-map, lemmas.List.length-map}
use Rattle.std.proofs.lemmas.List.Edits.{length-remove, get_or-remove_below, get_or-remove_above}
use Rattle.std.proofs.lemmas.List.Elements.{Contains-get_or, All-contains, All-filter, All-contains_itself}
use Rattle.std.proofs.lemmas.List.Elements.{filter_passes}

-- what is left was there
pub left_was_there : {X : Type 0} (xs : List X) (i : ℕ) (x : X) → i < length xs → Contains (remove xs i) x
    → Contains xs x
left_was_there xs i x within (k, below, there) =
    elim (cases_lt k i) [
      | inl before ↦ (k, omega arith, sym (get_or-remove_below xs i x k before within) ∙ there)
      | inr after ↦
          (k + 1, omega (arith, length-remove xs i within), sym (get_or-remove_above xs i x k after within) ∙ there)
    ]

-- what was there is left, or is what was taken out
pub left_or_taken : {X : Type 0} (xs : List X) (i : ℕ) (x y : X) → slice_get xs i ≡ Some y → Contains xs x
    → Contains (remove xs i) x ⊎ (x ≡ y)
left_or_taken xs i x y taken (k, below, there) =
    let within : i < length xs = slice_get_within xs i y taken in
    let long = length-remove xs i within in
    elim (cases_lt k i) [
      | inl before ↦ inl (k, omega (arith, long), get_or-remove_below xs i x k before within ∙ there)
      | inr at_least ↦ elim (cases_eq k i) [
        | inl same ↦ inr (sym there ∙ ap (λ n. get_or xs n x) same ∙ get_or_from_slice_get xs i y x taken)
        | inr other ↦
            let back : k - 1 + 1 ≡ k = omega (arith, other, at_least) in
            inl (
              k - 1,
              omega (arith, long, other, at_least),
              get_or-remove_above xs i x (k - 1) (omega (arith, other, at_least)) within
                  ∙ ap (λ n. get_or xs n x) back ∙ there,
            )
      ]
    ]

-- the element at a place is one of the list
pub taken_was_there : {X : Type 0} (xs : List X) (i : ℕ) (y : X) → slice_get xs i ≡ Some y → Contains xs y
taken_was_there xs i y taken = (i, slice_get_within xs i y taken, get_or_from_slice_get xs i y y taken)

-- ---- filters

-- what passes was there, and passes the test
pub passed_was_there : {X : Type 0} (test : X → Bool) (xs : List X) (x : X) → Contains (filter test xs) x
    → Contains xs x
passed_was_there test xs x kept =
    All-contains (Contains xs) (filter test xs) x (All-filter test (Contains xs) xs (All-contains_itself xs)) kept

pub passed_test : {X : Type 0} (test : X → Bool) (xs : List X) (x : X) → Contains (filter test xs) x → test x ≡ true
passed_test test xs x kept = All-contains (λ y. test y ≡ true) (filter test xs) x (filter_passes test xs) kept

with_front : {X : Type 0} (b : Bool) (y : X) (ys : List X) (x : X) → Contains ys x → Contains (cond b (y ∷ ys) ys) x
with_front true y ys x (k, within, there) = (suc k, omega (arith, within), there)
with_front false y ys x there = there

-- what was there and passes the test is kept
pub passes_filter : {X : Type 0} (test : X → Bool) (xs : List X) (x : X) → test x ≡ true → Contains xs x
    → Contains (filter test xs) x
passes_filter test [] x pass (k, within, there) = absurd (omega (arith, within))
passes_filter test (y ∷ ys) x pass (zero, within, there) =
    let front : test y ≡ true = subst (λ z. test z ≡ true) (sym there) pass in
    rw front (zero, omega arith, there)
passes_filter test (y ∷ ys) x pass (suc k, within, there) =
    with_front (test y) y (filter test ys) x (passes_filter test ys x pass (k, omega (arith, within), there))

-- ---- images of lists

pub in_map : {X Y : Type 0} (f : X → Y) (xs : List X) (x : X) → Contains xs x → Contains (map f xs) (f x)
in_map f xs x (k, within, there) =
    (k, subst (λ n. k < n) (sym (length-map xs f)) within, get_or-map f xs k x (f x) within ∙ ap f there)

pub from_map : {X Y : Type 0} (f : X → Y) (xs : List X) (y : Y) (d : X) → Contains (map f xs) y
    → (x : X) × Contains xs x × (f x ≡ y)
from_map f xs y d (k, within, there) =
    let inside : k < length xs = subst (λ n. k < n) (length-map xs f) within in
    (get_or xs k d, Contains-get_or xs k d inside, sym (get_or-map f xs k d y inside) ∙ there)
