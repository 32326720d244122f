-- An input splits in one way.
use Rattle.std.proofs.Common.{◌≡◌, ℕ, List, [], ◌∷◌, ◌++◌, length, get_or, drop, sym, ap, ◌∙◌, arith, inl, inr, codes}
use Rattle.view_session.specs.Input.{IsImageLine, IsSplit, HasNoImageLine}
use Rattle.view_session.proofs.Lists.{same_parts}

-- what follows the LF of an `image` line is one text
one_file : (line other file more : List ℕ) → IsImageLine line → IsImageLine other
    → line ++ 10 ∷ file ≡ other ++ 10 ∷ more → file ≡ more
one_file line other file more (inl a) (inl b) e =
    let same : codes "image" ++ 10 ∷ file ≡ codes "image" ++ 10 ∷ more = ap (λ (l : List ℕ). l ++ 10 ∷ file) (sym a) ∙ e
    ∙ ap (λ (l : List ℕ). l ++ 10 ∷ more) b in
    ap (drop 6) same
one_file line other file more (inl a) (inr b) e =
    let same : codes "image" ++ 10 ∷ file ≡ (codes "image" ++ 13 ∷ []) ++ 10 ∷ more = ap
    (λ (l : List ℕ). l ++ 10 ∷ file) (sym a) ∙ e ∙ ap (λ (l : List ℕ). l ++ 10 ∷ more) b in
    let byte : ◌≡◌ {A = ℕ} 10 13 = ap (λ (l : List ℕ). get_or l 5 0) same in
    absurd (omega arith)
one_file line other file more (inr a) (inl b) e =
    let same : (codes "image" ++ 13 ∷ []) ++ 10 ∷ file ≡ codes "image" ++ 10 ∷ more = ap
    (λ (l : List ℕ). l ++ 10 ∷ file) (sym a) ∙ e ∙ ap (λ (l : List ℕ). l ++ 10 ∷ more) b in
    let byte : ◌≡◌ {A = ℕ} 13 10 = ap (λ (l : List ℕ). get_or l 5 0) same in
    absurd (omega arith)
one_file line other file more (inr a) (inr b) e =
    let same : (codes "image" ++ 13 ∷ []) ++ 10 ∷ file ≡ (codes "image" ++ 13 ∷ []) ++ 10 ∷ more = ap
    (λ (l : List ℕ). l ++ 10 ∷ file) (sym a) ∙ e ∙ ap (λ (l : List ℕ). l ++ 10 ∷ more) b in
    ap (drop 7) same

-- an input splits in one way
pub one_split : (input edits file others more : List ℕ) → IsSplit input edits file → IsSplit input others more
    → (edits ≡ others) × (file ≡ more)
one_split input edits file others more first second =
    let a = first.has_line in
    let b = second.has_line in
    let long : length edits ≡ length others = omega (arith, first.first others more b, second.first edits file a) in
    let parts = same_parts edits (a.line ++ 10 ∷ file) others (b.line ++ 10 ∷ more) (sym a.parts ∙ b.parts) long in
    (parts.0, one_file a.line b.line file more a.is_image b.is_image parts.1)

-- an input that splits has an `image` line
pub splits_or_not : (input edits file : List ℕ) → HasNoImageLine input → IsSplit input edits file → ⊥
splits_or_not input edits file none split = none edits file split.has_line
