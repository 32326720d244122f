-- How many tiles are left, counted from one on.
use Rattle.std.proofs.Common.{arith, ◌≡◌, ◌<◌, ◌≤◌, ◌↔◌, ◌+◌, ℕ, suc, List, [], ◌∷◌, length}
use Rattle.std.specs.List.{AllByRecursion}
use Rattle.stroke_lattice.specs.Change.{AreRising}
use Rattle.border_queues.specs.TileWork.{IsLeast}
use Rattle.studio.specs.Left.{HasAtLeast}

-- ---- all of a list

all_more : (P Q : ℕ → Type 0) → ((t : ℕ) → P t → Q t) → (ts : List ℕ) → AllByRecursion P ts → AllByRecursion Q ts
all_more P Q more [] none = none
all_more P Q more (t ∷ ts) (holds, rest) = (more t holds, all_more P Q more ts rest)

all_both : (P Q : ℕ → Type 0) (ts : List ℕ) → AllByRecursion P ts → AllByRecursion Q ts
    → AllByRecursion (λ t. P t × Q t) ts
all_both P Q [] none also = none
all_both P Q (t ∷ ts) (holds, rest) (too, others) = ((holds, too), all_both P Q ts rest others)

-- ---- so many numbers

of_more : (n : ℕ) (P Q : ℕ → Type 0) → ((t : ℕ) → P t → Q t) → HasAtLeast n P → HasAtLeast n Q
of_more n P Q more many = record {
  numbers = many.numbers;
  count = many.count;
  rise = many.rise;
  holds = all_more P Q more many.numbers many.holds;
}

-- it holds of none at least
pub of_none : (P : ℕ → Type 0) → HasAtLeast 0 P
of_none P = record { numbers = []; count = omega arith; rise = tt; holds = tt }

-- where the number is any, it holds of as many
pub from_zero : (P : ℕ → Type 0) (n : ℕ) → HasAtLeast n P ↔ HasAtLeast n (λ t. (0 ≤ t) × P t)
from_zero P n = (
  of_more n P (λ t. (0 ≤ t) × P t) (λ t holds. (omega arith, holds)),
  of_more n (λ t. (0 ≤ t) × P t) P (λ t both. both.1),
)

-- the first of them, and those behind it
first_and_rest : (P : ℕ → Type 0) (n : ℕ) (ts : List ℕ) → length ts ≡ suc n → AreRising ts → AllByRecursion P ts
    → (t : ℕ) × P t × HasAtLeast n (λ u. (t < u) × P u)
first_and_rest P n [] count rise none = absurd (omega (arith, count))
first_and_rest P n (t ∷ ts) count (above, rise) (holds, rest) = (
  t,
  holds,
  record {
    numbers = ts;
    count = omega (arith, count);
    rise = rise;
    holds = all_both (λ u. t < u) P ts above rest;
  },
)

-- none from here on is one
pub none_from : (P : ℕ → Type 0) (from n : ℕ) → ((t : ℕ) → from ≤ t → P t → ⊥)
    → HasAtLeast (suc n) (λ t. (from ≤ t) × P t) → ⊥
none_from P from n none many =
    let (t, (at, holds), rest) =
    first_and_rest (λ t. (from ≤ t) × P t) n many.numbers many.count many.rise many.holds in
    none t at holds

-- behind the least number of which it holds it holds of one less
module _ (P : ℕ → Type 0) (from t : ℕ) (least : IsLeast (λ u. (from ≤ u) × P u) t) where
  abbrev From : ℕ → Type 0
  From u = (from ≤ u) × P u

  abbrev Behind : ℕ → Type 0
  Behind u = (t + 1 ≤ u) × P u

  to_rest : (n : ℕ) → HasAtLeast (suc n) From → HasAtLeast n Behind
  to_rest n many =
      let (u, holds, rest) = first_and_rest From n many.numbers many.count many.rise many.holds in
      of_more n (λ v. (u < v) × From v) Behind (λ v both. (omega (arith, least.1 u holds, both.0), both.1.1)) rest

  and_first : (n : ℕ) → HasAtLeast n Behind → HasAtLeast (suc n) From
  and_first n rest = record {
    numbers = t ∷ rest.numbers;
    count = let count = rest.count in omega (arith, count);
    rise = (all_more Behind (λ v. t < v) (λ v both. omega (arith, both.0)) rest.numbers rest.holds, rest.rise);
    holds = (
      least.0,
      all_more Behind From (λ v both. (omega (arith, least.0.0, both.0), both.1)) rest.numbers rest.holds,
    );
  }

  pub behind_least : (n : ℕ) → HasAtLeast (suc n) From ↔ HasAtLeast n Behind
  behind_least n = (to_rest n, and_first n)
