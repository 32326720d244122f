-- Lists in strict order with the same elements are equal.
use Rattle.std.proofs.Common.{◌≡◌, ℕ, zero, suc, ◌<◌, List, [], ◌∷◌, refl, sym, subst, arith, inl, inr, ◌⊎◌, Contains}
use Rattle.std.proofs.Common.{◌↔◌}
use Rattle.std.specs.List.{AllByRecursion}

-- an element of a longer list is its first or one of the others
pub in_front_or_rest : {X : Type 0} (y : X) (ys : List X) (x : X) → Contains (y ∷ ys) x → (y ≡ x) ⊎ Contains ys x
in_front_or_rest y ys x (zero, within, there) = inl there
in_front_or_rest y ys x (suc k, within, there) = inr (k, omega (arith, within), there)

pub in_front : {X : Type 0} (y : X) (ys : List X) → Contains (y ∷ ys) y
in_front y ys = (zero, omega arith, refl)

pub in_rest : {X : Type 0} (y : X) (ys : List X) (x : X) → Contains ys x → Contains (y ∷ ys) x
in_rest y ys x (k, within, there) = (suc k, omega (arith, within), there)

pub none_there : {X : Type 0} (x : X) → Contains [] x → ⊥
none_there x (k, within, there) = omega (arith, within)

-- what holds of each holds of an element
of_element : {X : Type 0} (P : X → Type 0) (xs : List X) (x : X) → AllByRecursion P xs → Contains xs x → P x
of_element P [] x all there = absurd (none_there x there)
of_element P (y ∷ ys) x all there = elim (in_front_or_rest y ys x there) [
  | inl same ↦ subst P same all.0
  | inr rest ↦ of_element P ys x all.1 rest
]

module _ {X : Type 0} (R : X → X → Type 0) (S : List X → Type 0) (one_way : (a b : X) → R a b → R b a → ⊥)
    (parts : (a : X) (rest : List X) → S (a ∷ rest) → AllByRecursion (R a) rest × S rest) where
  same_first : (x : X) (xs : List X) (y : X) (ys : List X) → S (x ∷ xs) → S (y ∷ ys) → Contains (y ∷ ys) x
      → Contains (x ∷ xs) y → x ≡ y
  same_first x xs y ys order_x order_y x_there y_there = elim (in_front_or_rest y ys x x_there) [
    | inl same ↦ sym same
    | inr x_later ↦ elim (in_front_or_rest x xs y y_there) [
      | inl same ↦ same
      | inr y_later ↦
          absurd (one_way x y (of_element (R x) xs y (parts x xs order_x).0 y_later)
          (of_element (R y) ys x (parts y ys order_y).0 x_later))
    ]
  ]

  -- an element of the rest of one list is one of the rest of the other
  rest_in_rest : (x : X) (xs ys : List X) (z : X) → S (x ∷ xs) → Contains xs z → Contains (x ∷ ys) z → Contains ys z
  rest_in_rest x xs ys z order there found = elim (in_front_or_rest x ys z found) [
    | inl same ↦
        let later : R x z = of_element (R x) xs z (parts x xs order).0 there in
        let loop : R z z = subst (λ w. R w z) same later in
        absurd (one_way z z loop loop)
    | inr rest ↦ rest
  ]

  pub one_ordered : (xs ys : List X) → S xs → S ys → ((z : X) → Contains xs z ↔ Contains ys z) → xs ≡ ys
  one_ordered [] [] order_x order_y same = refl
  one_ordered [] (y ∷ ys) order_x order_y same = absurd (none_there y ((same y).1 (in_front y ys)))
  one_ordered (x ∷ xs) [] order_x order_y same = absurd (none_there x ((same x).0 (in_front x xs)))
  one_ordered (x ∷ xs) (y ∷ ys) order_x order_y same =
      let first : x ≡ y =
      same_first x xs y ys order_x order_y ((same x).0 (in_front x xs)) ((same y).1 (in_front y ys)) in
      let order_z : S (x ∷ ys) = subst (λ w. S (w ∷ ys)) (sym first) order_y in
      let rest : xs ≡ ys = one_ordered xs ys (parts x xs order_x).1 (parts y ys order_y).1 (λ z. (
        λ there. rest_in_rest x xs ys z order_x there
            (subst (λ w. Contains (w ∷ ys) z) (sym first) ((same z).0 (in_rest x xs z there))),
        λ there. rest_in_rest x ys xs z order_z there ((same z).1 (in_rest y ys z there)),
      )) in
      λ i. first i ∷ rest i

pub less_one_way : (a b : ℕ) → a < b → b < a → ⊥
less_one_way a b less more = omega (arith, less, more)
