-- Members of lists, and lists of numbers that rise.
use Rattle.std.proofs.Common.{◌≡◌, ℕ, ◌<◌, Bool, true, List, [], ◌∷◌, ◌++◌, subst, inl, inr, arith, Contains, Less}
use Rattle.std.proofs.Common.{filter, nat_cmp}
use Rattle.std.proofs.{lemmas.Map.Keys.sorted_head, lemmas.Map.Keys.sorted_tail, lemmas.Bool.Decides.nat_tests}
use Rattle.std.proofs.lemmas.Bool.{cond-true}
use Rattle.std.specs.{List.AllByRecursion, List.Sorted.IsStrictlySortedBy}
use Rattle.grid_core.proofs.Common.{first_or_later, later, first, not_in_empty}
use Rattle.stroke_lattice.specs.Change.{AreRising}

module _ {X : Type 0} where
  pub holds_of_member : (P : X → Type 0) (xs : List X) (q : X) → AllByRecursion P xs → Contains xs q → P q
  holds_of_member P [] q all has = absurd (not_in_empty q has)
  holds_of_member P (x ∷ xs) q all has = elim
      (first_or_later x xs q has) [ inl e ↦ subst P e all.0 | inr there ↦ holds_of_member P xs q all.1 there ]

  pub all_from_members : (P : X → Type 0) (xs : List X) → ((q : X) → Contains xs q → P q) → AllByRecursion P xs
  all_from_members P [] each = tt
  all_from_members P (x ∷ xs) each = (each x (first x xs), all_from_members P xs (λ q has. each q (later x xs q has)))

  pub each_weaker : (P Q : X → Type 0) → ((x : X) → P x → Q x) → (xs : List X) → AllByRecursion P xs
      → AllByRecursion Q xs
  each_weaker P Q weaker [] all = tt
  each_weaker P Q weaker (x ∷ xs) all = (weaker x all.0, each_weaker P Q weaker xs all.1)

pub filter_first : {X : Type 0} (p : X → Bool) (x : X) (xs : List X) → p x ≡ true
    → filter p (x ∷ xs) ≡ x ∷ filter p xs
filter_first p x xs e = cond-true (p x) (x ∷ filter p xs) (filter p xs) e

-- ---- numbers that rise

less : (x y : ℕ) → nat_cmp x y ≡ Less → x < y
less x y e = grind (arith, nat_tests)

pub rising_from_sorted : (xs : List ℕ) → IsStrictlySortedBy nat_cmp xs → AreRising xs
rising_from_sorted [] sorted = tt
rising_from_sorted (x ∷ xs) sorted = (
  each_weaker (λ y. nat_cmp x y ≡ Less) (λ y. x < y) (less x) xs (sorted_head nat_cmp x xs sorted),
  rising_from_sorted xs (sorted_tail nat_cmp x xs sorted),
)

-- the first of rising numbers is below each other one
pub below_later : (x : ℕ) (xs : List ℕ) (q : ℕ) → AreRising (x ∷ xs) → Contains xs q → x < q
below_later x xs q rise has = holds_of_member (λ y. x < y) xs q rise.0 has

all_append : (P : ℕ → Type 0) (xs ys : List ℕ) (y : ℕ) → AllByRecursion P (xs ++ y ∷ ys) → AllByRecursion P (xs ++ ys)
all_append P [] ys y all = all.1
all_append P (x ∷ xs) ys y all = (all.0, all_append P xs ys y all.1)

-- rising numbers rise without one of them
pub rise_without : (xs ys : List ℕ) (y : ℕ) → AreRising (xs ++ y ∷ ys) → AreRising (xs ++ ys)
rise_without [] ys y rise = rise.1
rise_without (x ∷ xs) ys y rise = (all_append (λ other. x < other) xs ys y rise.0, rise_without xs ys y rise.1)
