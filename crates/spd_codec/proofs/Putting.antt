-- Putting texts one after another, as a loop does.
use Rattle.std.proofs.Common.{◌≡◌, ℕ, List, [], ◌∷◌, ◌++◌, sym, ap, subst, ◌∙◌, append_assoc, flat_map}
use Rattle.std.proofs.lemmas.List.{append-nil}
use Rattle.std.specs.List.{AllByRecursion}

-- one more was put
pub text_more : {X : Type 0} (text_of : X → List ℕ) (xs rest : List X) (x : X) (before after all : List ℕ)
    → xs ≡ x ∷ rest → after ≡ before ++ text_of x → before ++ flat_map text_of xs ≡ all
    → after ++ flat_map text_of rest ≡ all
text_more {X} text_of xs rest x before after all is put so_far =
    rw (put, append_assoc) (subst (λ (ys : List X). before ++ flat_map text_of ys ≡ all) is so_far)

pub fit_more : {X R : Type 0} (Fits : X → Type 0) (xs rest : List X) (x : X) → xs ≡ x ∷ rest → Fits x
    → (AllByRecursion Fits xs → R) → AllByRecursion Fits rest → R
fit_more Fits xs rest x is fits so_far each = so_far (subst (AllByRecursion Fits) (sym is) (fits, each))

-- none is left
pub text_done : {X : Type 0} (text_of : X → List ℕ) (xs : List X) (before all : List ℕ) → xs ≡ []
    → before ++ flat_map text_of xs ≡ all → before ≡ all
text_done {X} text_of xs before all none so_far =
    sym (append-nil before) ∙ ap (λ (ys : List X). before ++ flat_map text_of ys) (sym none) ∙ so_far

pub fit_done : {X R : Type 0} (Fits : X → Type 0) (xs : List X) → xs ≡ [] → (AllByRecursion Fits xs → R) → R
fit_done Fits xs none so_far = so_far (subst (AllByRecursion Fits) (sym none) tt)
