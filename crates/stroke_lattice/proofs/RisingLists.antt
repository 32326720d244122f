-- Lists with rising keys, one of them within another.
use Rattle.std.proofs.Common.{◌≡◌, ℕ, ◌<◌, ◌≤◌, List, [], ◌∷◌, map, length, refl, sym, ap, ◌∙◌, inl, inr, arith}
use Rattle.std.proofs.Common.{Contains}
use Rattle.grid_core.proofs.Common.{first_or_later, later, first, not_in_empty, map_has}
use Rattle.stroke_lattice.specs.Change.{AreRising}
use Rattle.stroke_lattice.proofs.Lists.{below_later}

-- each item of the first list stands in the second
abbrev pub Within : {X : Type 0} → List X → List X → Type 0
Within {X} xs ys = (q : X) → Contains xs q → Contains ys q

module _ {X : Type 0} (key : X → ℕ) where
  -- the key of each other item is greater than that of the first
  above_first : (x : X) (xs : List X) (q : X) → AreRising (map key (x ∷ xs)) → Contains xs q → key x < key q
  above_first x xs q rise has = below_later (key x) (map key xs) (key q) rise (map_has key xs q has)

  -- where the first items are the same, the others are within the others
  others_within : (x y : X) (xs ys : List X) → AreRising (map key (x ∷ xs)) → y ≡ x → Within (x ∷ xs) (y ∷ ys)
      → Within xs ys
  others_within x y xs ys rise same within q has = elim (first_or_later y ys q (within q (later x xs q has))) [
    | inl e ↦
        let above : key x < key q = above_first x xs q rise has in
        let tie : key x ≡ key q = ap key (sym same ∙ e) in
        absurd (omega arith)
    | inr there ↦ there
  ]

  -- where the first item of the second list is lower, all are within its others
  all_within : (x y : X) (xs ys : List X) → AreRising (map key (x ∷ xs)) → key y < key x
      → Within (x ∷ xs) (y ∷ ys) → Within (x ∷ xs) ys
  all_within x y xs ys rise lower within q has = elim (first_or_later y ys q (within q has)) [
    | inl e ↦
        let tie : key y ≡ key q = ap key e in
        elim (first_or_later x xs q has) [
          | inl h ↦ let here : key x ≡ key q = ap key h in absurd (omega arith)
          | inr h ↦ let above : key x < key q = above_first x xs q rise h in absurd (omega arith)
        ]
    | inr there ↦ there
  ]

  -- the list within is no longer
  no_longer : (xs ys : List X) → AreRising (map key xs) → AreRising (map key ys) → Within xs ys
      → length xs ≤ length ys
  no_longer [] ys rise rise' within = omega arith
  no_longer (x ∷ xs) [] rise rise' within = absurd (not_in_empty x (within x (first x xs)))
  no_longer (x ∷ xs) (y ∷ ys) rise rise' within = elim (first_or_later y ys x (within x (first x xs))) [
    | inl e ↦
        let rest : length xs ≤ length ys =
        no_longer xs ys rise.1 rise'.1 (others_within x y xs ys rise e within) in
        omega arith
    | inr there ↦
        let lower : key y < key x = above_first y ys x rise' there in
        let rest : length (x ∷ xs) ≤ length ys =
        no_longer (x ∷ xs) ys rise rise'.1 (all_within x y xs ys rise lower within) in
        omega arith
  ]

  -- and where it is as long it is the same
  pub same_list : (xs ys : List X) → AreRising (map key xs) → AreRising (map key ys) → Within xs ys
      → length xs ≡ length ys → xs ≡ ys
  same_list [] [] rise rise' within long = refl
  same_list [] (y ∷ ys) rise rise' within long = absurd (omega arith)
  same_list (x ∷ xs) [] rise rise' within long = absurd (omega arith)
  same_list (x ∷ xs) (y ∷ ys) rise rise' within long =
      elim (first_or_later y ys x (within x (first x xs))) [
        | inl e ↦
            let rest : xs ≡ ys =
            same_list xs ys rise.1 rise'.1 (others_within x y xs ys rise e within) (omega arith) in
            λ i. sym e i ∷ rest i
        | inr there ↦
            let lower : key y < key x = above_first y ys x rise' there in
            let rest : length (x ∷ xs) ≤ length ys =
            no_longer (x ∷ xs) ys rise rise'.1 (all_within x y xs ys rise lower within) in
            absurd (omega arith)
      ]

  -- and so it is where both have the same members
  pub same_members : (xs ys : List X) → AreRising (map key xs) → AreRising (map key ys) → Within xs ys → Within ys xs
      → xs ≡ ys
  same_members xs ys rise rise' within back = same_list xs ys rise rise' within
      (omega (arith, no_longer xs ys rise rise' within, no_longer ys xs rise' rise back))
