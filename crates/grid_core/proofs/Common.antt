-- Booleans and members of lists: lemmas for this crate and for the crates above, which name them from here.
use Rattle.std.proofs.Common.{◌≡◌, ℕ, zero, suc, ◌+◌, ◌<◌, ◌≤◌, Bool, true, false, cond, List, [], ◌∷◌, ◌++◌, length}
use Rattle.std.proofs.Common.{map, refl, ap, sym, subst, ◌∙◌, inl, inr, ◌⊎◌, arith, ◌&&◌, ◌||◌, Contains, filter}
use Rattle.std.proofs.Common.{flat_map}
use Rattle.std.proofs.lemmas.Bool.{cases_lt}
use Rattle.std.proofs.lemmas.List.Elements.{Contains-append_left, Contains-append_right, Contains-append_cases}
use Rattle.std.specs.List.{range_with_len}

-- ---- Booleans

pub true_or_false : (b : Bool) → (b ≡ true) ⊎ (b ≡ false)
true_or_false true = inl refl
true_or_false false = inr refl

pub true_or_not : (b : Bool) → (b ≡ true) ⊎ (b ≡ true → ⊥)
true_or_not true = inl refl
true_or_not false = inr (λ e. cc)

pub not_true : (b : Bool) → (b ≡ true → ⊥) → b ≡ false
not_true true never = absurd (never refl)
not_true false never = refl

pub both_true : (a b : Bool) → a && b ≡ true → (a ≡ true) × (b ≡ true)
both_true true b h = (refl, h)
both_true false b h = absurd cc

pub true_and : (a b : Bool) → a ≡ true → b ≡ true → a && b ≡ true
true_and true b p q = q
true_and false b p q = absurd cc

pub and_false : (a b : Bool) → b ≡ false → a && b ≡ false
and_false true b h = h
and_false false b h = refl

pub either : (a b : Bool) → (a || b) ≡ true → (a ≡ true) ⊎ (b ≡ true)
either true b e = inl refl
either false b e = inr e

pub neither : (a b : Bool) → (a || b) ≡ false → (a ≡ false) × (b ≡ false)
neither true b e = absurd cc
neither false b e = (refl, e)

pub or_left : (a b : Bool) → a ≡ true → (a || b) ≡ true
or_left a b e = ap (λ t. t || b) e

pub or_right : (a b : Bool) → b ≡ true → (a || b) ≡ true
or_right true b e = refl
or_right false b e = e

pub or_false : (b : Bool) → (b || false) ≡ b
or_false true = refl
or_false false = refl

-- ---- the first member of a list, and later ones

pub first_or_later : {X : Type 0} (x : X) (xs : List X) (y : X) → Contains (x ∷ xs) y → (x ≡ y) ⊎ Contains xs y
first_or_later x xs y (zero, within, same) = inl same
first_or_later x xs y (suc k, within, same) = inr (k, omega arith, same)

pub later : {X : Type 0} (x : X) (xs : List X) (y : X) → Contains xs y → Contains (x ∷ xs) y
later x xs y (k, within, same) = (suc k, omega arith, same)

pub first : {X : Type 0} (x : X) (xs : List X) → Contains (x ∷ xs) x
first x xs = (0, omega arith, refl)

pub here : {X : Type 0} (x : X) (xs : List X) (y : X) → x ≡ y → Contains (x ∷ xs) y
here x xs y same = (0, omega arith, same)

pub not_in_empty : {X : Type 0} (x : X) → Contains [] x → ⊥
not_in_empty x (k, within, same) = omega arith

pub no_length : {X : Type 0} (xs : List X) → length xs ≡ 0 → xs ≡ []
no_length [] e = refl
no_length (x ∷ xs) e = absurd (omega arith)

-- ---- lists made from others

-- equal at each element
pub same_flat_map : {X Y : Type 0} (f g : X → List Y) (xs : List X) → ((x : X) → Contains xs x → f x ≡ g x)
    → flat_map f xs ≡ flat_map g xs
same_flat_map f g [] same = refl
same_flat_map f g (x ∷ xs) same =
    ap (λ ys. ys ++ flat_map f xs) (same x (here x xs x refl))
    ∙ ap (λ ys. g x ++ ys) (same_flat_map f g xs (λ y there. same y (later x xs y there)))

pub same_filter : {X : Type 0} (f g : X → Bool) (xs : List X) → ((x : X) → Contains xs x → f x ≡ g x)
    → filter f xs ≡ filter g xs
same_filter f g [] same = refl
same_filter f g (x ∷ xs) same =
    ap (λ b. cond b (x ∷ filter f xs) (filter f xs)) (same x (here x xs x refl))
    ∙ ap (λ ys. cond (g x) (x ∷ ys) ys) (same_filter f g xs (λ y there. same y (later x xs y there)))

-- ---- which members they have

pub in_flat_map : {X Y : Type 0} (f : X → List Y) (xs : List X) (y : Y) → Contains (flat_map f xs) y
    → (x : X) × Contains xs x × Contains (f x) y
in_flat_map f [] y there = absurd (not_in_empty y there)
in_flat_map f (x ∷ xs) y there = elim (Contains-append_cases (f x) (flat_map f xs) y there) [
  | inl first ↦ (x, here x xs x refl, first)
  | inr rest ↦ let (z, in_xs, in_fz) = in_flat_map f xs y rest in (z, later x xs z in_xs, in_fz)
]

pub flat_map_has : {X Y : Type 0} (f : X → List Y) (xs : List X) (x : X) (y : Y) → Contains xs x → Contains (f x) y
    → Contains (flat_map f xs) y
flat_map_has f [] x y in_xs in_fx = absurd (not_in_empty x in_xs)
flat_map_has f (z ∷ xs) x y in_xs in_fx = elim (first_or_later z xs x in_xs) [
  | inl same ↦ Contains-append_left (f z) (flat_map f xs) y (subst (λ w. Contains (f w) y) (sym same) in_fx)
  | inr rest ↦ Contains-append_right (f z) (flat_map f xs) y (flat_map_has f xs x y rest in_fx)
]

pub in_map : {X Y : Type 0} (f : X → Y) (xs : List X) (y : Y) → Contains (map f xs) y
    → (x : X) × Contains xs x × (f x ≡ y)
in_map f [] y there = absurd (not_in_empty y there)
in_map f (x ∷ xs) y there = elim (first_or_later (f x) (map f xs) y there) [
  | inl same ↦ (x, here x xs x refl, same)
  | inr rest ↦ let (z, in_xs, same) = in_map f xs y rest in (z, later x xs z in_xs, same)
]

pub map_has : {X Y : Type 0} (f : X → Y) (xs : List X) (x : X) → Contains xs x → Contains (map f xs) (f x)
map_has f [] x there = absurd (not_in_empty x there)
map_has f (z ∷ xs) x there = elim (first_or_later z xs x there) [
  | inl same ↦ here (f z) (map f xs) (f x) (ap f same)
  | inr rest ↦ later (f z) (map f xs) (f x) (map_has f xs x rest)
]

pub in_filter : {X : Type 0} (test : X → Bool) (xs : List X) (x : X) → Contains (filter test xs) x
    → Contains xs x × (test x ≡ true)
in_filter test [] x there = absurd (not_in_empty x there)
in_filter test (z ∷ xs) x there =
    let Kept : Bool → Type 0 = λ b. Contains (cond b (z ∷ filter test xs) (filter test xs)) x in
    elim (true_or_false (test z)) [
      | inl passes ↦ elim (first_or_later z (filter test xs) x (subst Kept passes there)) [
        | inl same ↦ (here z xs x same, ap test (sym same) ∙ passes)
        | inr rest ↦ let (in_xs, passed) = in_filter test xs x rest in (later z xs x in_xs, passed)
      ]
      | inr fails ↦
          let (in_xs, passed) = in_filter test xs x (subst Kept fails there) in
          (later z xs x in_xs, passed)
    ]

pub filter_has : {X : Type 0} (test : X → Bool) (xs : List X) (x : X) → Contains xs x → test x ≡ true
    → Contains (filter test xs) x
filter_has test [] x there passed = absurd (not_in_empty x there)
filter_has test (z ∷ xs) x there passed =
    let Kept : Bool → Type 0 = λ b. Contains (cond b (z ∷ filter test xs) (filter test xs)) x in
    elim (first_or_later z xs x there) [
      | inl same ↦ subst Kept (sym (ap test same ∙ passed)) (here z (filter test xs) x same)
      | inr rest ↦ elim (true_or_false (test z)) [
        | inl passes ↦ subst Kept (sym passes) (later z (filter test xs) x (filter_has test xs x rest passed))
        | inr fails ↦ subst Kept (sym fails) (filter_has test xs x rest passed)
      ]
    ]

pub in_range : (a n k : ℕ) → Contains (range_with_len a n) k → (a ≤ k) × (k < a + n)
in_range a zero k there = absurd (not_in_empty k there)
in_range a (suc n) k there = elim (first_or_later a (range_with_len (a + 1) n) k there) [
  | inl same ↦ (omega arith, omega arith)
  | inr rest ↦ let within = in_range (a + 1) n k rest in (omega (arith, within), omega (arith, within))
]

pub range_has : (a n k : ℕ) → a ≤ k → k < a + n → Contains (range_with_len a n) k
range_has a zero k low high = absurd (omega arith)
range_has a (suc n) k low high = elim (cases_lt a k) [
  | inl less ↦ later a (range_with_len (a + 1) n) k (range_has (a + 1) n k (omega arith) (omega arith))
  | inr at_most ↦ here a (range_with_len (a + 1) n) k (omega arith)
]
