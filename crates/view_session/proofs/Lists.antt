-- Lists that are cut in two.
use Rattle.std.proofs.Common.{◌≡◌, ◌<◌, List, [], ◌∷◌, ◌++◌, length, take, drop, refl, sym, ap, ◌∙◌, arith}
use Rattle.std.proofs.lemmas.List.{take_at, drop_at}
use Rattle.std.specs.List.{AllByRecursion}

-- lists cut in two at one place have equal parts
pub same_parts : {X : Type 0} (a b c d : List X) → a ++ b ≡ c ++ d → length a ≡ length c → (a ≡ c) × (b ≡ d)
same_parts a b c d e long = (
  sym (take_at a b (length a) refl) ∙ ap (take (length a)) e ∙ take_at c d (length a) (sym long),
  sym (drop_at a b (length a) refl) ∙ ap (drop (length a)) e ∙ drop_at c d (length a) (sym long),
)

-- a longer front of a list has what stands behind a shorter one
pub longer_front : {X : Type 0} (a b c d : List X) (x : X) → a ++ x ∷ b ≡ c ++ d → length a < length c
    → (mid : List X) × (c ≡ a ++ x ∷ mid)
longer_front [] b [] d x e less = absurd (omega (arith, less))
longer_front [] b (y ∷ c) d x e less = (c, (let same : y ≡ x = cc in ap (λ z. z ∷ c) same))
longer_front (z ∷ a) b [] d x e less = absurd (omega (arith, less))
longer_front (z ∷ a) b (y ∷ c) d x e less =
    let heads : y ≡ z = cc in
    let tails : a ++ x ∷ b ≡ c ++ d = cc in
    let rest = longer_front a b c d x tails (omega (arith, less)) in
    (rest.0, ap (λ t. t ∷ c) heads ∙ ap (λ l. z ∷ l) rest.1)

-- what holds of all holds of the one in the middle
pub all_middle : {X : Type 0} (P : X → Type 0) (a : List X) (x : X) (b : List X) → AllByRecursion P (a ++ x ∷ b) → P x
all_middle P [] x b all = all.0
all_middle P (y ∷ a) x b all = all_middle P a x b all.1

-- what holds of all and of one more
pub all_push : {X : Type 0} (P : X → Type 0) (xs : List X) (x : X) → AllByRecursion P xs → P x
    → AllByRecursion P (xs ++ x ∷ [])
all_push P [] x all one = (one, tt)
all_push P (y ∷ xs) x all one = (all.0, all_push P xs x all.1 one)
