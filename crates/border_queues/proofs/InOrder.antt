-- Lists in which each element stands in a relation to all later ones, and lists made from them.
use Rattle.std.proofs.Common.{ℕ, zero, suc, ◌+◌, ◌<◌, Bool, cond, List, [], ◌∷◌, ◌++◌, map, refl, sym, subst, inl, inr}
use Rattle.std.proofs.Common.{arith, Contains, filter, flat_map}
use Rattle.std.specs.List.{AllByRecursion, range_with_len}
use Rattle.grid_core.proofs.Common.{true_or_false, here, later, first_or_later, in_flat_map, in_map, in_filter}
use Rattle.grid_core.proofs.Common.{in_range}

abbrev pub InOrder : {X : Type 0} → (X → X → Type 0) → List X → Type 0
InOrder R [] = Unit {0}
InOrder R (x ∷ xs) = AllByRecursion (R x) xs × InOrder R xs

pub all_of : {X : Type 0} (P : X → Type 0) (xs : List X) → ((x : X) → Contains xs x → P x) → AllByRecursion P xs
all_of P [] each = tt
all_of P (x ∷ xs) each =
    (each x (here x xs x refl), all_of P xs (λ y there. each y (later x xs y there)))

pub each_of : {X : Type 0} (P : X → Type 0) (xs : List X) (x : X) → AllByRecursion P xs → Contains xs x → P x
each_of P [] x all there = absurd (omega (arith, there.1))
each_of P (y ∷ ys) x all there = elim (first_or_later y ys x there) [
  | inl same ↦ subst P same all.0
  | inr rest ↦ each_of P ys x all.1 rest
]

all_append : {X : Type 0} (P : X → Type 0) (xs ys : List X) → AllByRecursion P xs → AllByRecursion P ys
    → AllByRecursion P (xs ++ ys)
all_append P [] ys first rest = rest
all_append P (x ∷ xs) ys first rest = (first.0, all_append P xs ys first.1 rest)

order_append : {X : Type 0} (R : X → X → Type 0) (xs ys : List X) → InOrder R xs → InOrder R ys
    → ((x y : X) → Contains xs x → Contains ys y → R x y) → InOrder R (xs ++ ys)
order_append R [] ys first rest across = rest
order_append R (x ∷ xs) ys first rest across = (
  all_append (R x) xs ys first.0 (all_of (R x) ys (λ y there. across x y (here x xs x refl) there)),
  order_append R xs ys first.1 rest (λ z y in_xs in_ys. across z y (later x xs z in_xs) in_ys),
)

pub order_flat_map : {X Y : Type 0} (R : X → X → Type 0) (S : Y → Y → Type 0) (f : X → List Y) (xs : List X)
    → InOrder R xs → ((x : X) → Contains xs x → InOrder S (f x))
    → ((x z : X) (y w : Y) → R x z → Contains (f x) y → Contains (f z) w → S y w) → InOrder S (flat_map f xs)
order_flat_map R S f [] order each across = tt
order_flat_map R S f (x ∷ xs) order each across =
    order_append S (f x) (flat_map f xs) (each x (here x xs x refl))
    (order_flat_map R S f xs order.1 (λ z there. each z (later x xs z there)) across)
    (λ y w in_fx in_rest.
    let (z, in_xs, in_fz) = in_flat_map f xs w in_rest in
    across x z y w (each_of (R x) xs z order.0 in_xs) in_fx in_fz)

pub order_map : {X Y : Type 0} (R : X → X → Type 0) (S : Y → Y → Type 0) (f : X → Y) (xs : List X) → InOrder R xs
    → ((x z : X) → R x z → S (f x) (f z)) → InOrder S (map f xs)
order_map R S f [] order keeps = tt
order_map R S f (x ∷ xs) order keeps = (
  all_of (S (f x)) (map f xs) (λ y there.
      let (z, in_xs, same) = in_map f xs y there in
      subst (S (f x)) same (keeps x z (each_of (R x) xs z order.0 in_xs))),
  order_map R S f xs order.1 keeps,
)

pub order_filter : {X : Type 0} (R : X → X → Type 0) (test : X → Bool) (xs : List X) → InOrder R xs
    → InOrder R (filter test xs)
order_filter R test [] order = tt
order_filter R test (x ∷ xs) order =
    let Kept : Bool → Type 0 = λ b. InOrder R (cond b (x ∷ filter test xs) (filter test xs)) in
    elim (true_or_false (test x)) [
      | inl passes ↦ subst Kept (sym passes) (
        all_of (R x) (filter test xs) (λ y there.
            each_of (R x) xs y order.0 (in_filter test xs y there).0),
        order_filter R test xs order.1,
      )
      | inr fails ↦ subst Kept (sym fails) (order_filter R test xs order.1)
    ]

pub order_range : (a n : ℕ) → InOrder (λ k l. k < l) (range_with_len a n)
order_range a zero = tt
order_range a (suc n) = (
  all_of (λ k. a < k) (range_with_len (a + 1) n) (λ k there. omega (arith, in_range (a + 1) n k there)),
  order_range (a + 1) n,
)
