-- What stands behind a front of bytes.
use Rattle.std.proofs.Common.{◌≡◌, ◌≢◌, ℕ, ◌+◌, true, false, nat_eq, List, ◌++◌, length, take, drop, Bor, Option, Some}
use Rattle.std.proofs.Common.{None, sym, ◌∙◌, ◌∷◌, MatchOption, IfSome, IfNone}
use Rattle.std.proofs.{lemmas.Bool.Decides.Decides-eqb, lemmas.Slice.Eq.strip_prefix_is, lemmas.List.append_cancel_left}
use Rattle.std.specs.Cmp.Lexicographic.{pointwise}

-- what `strip_prefix` says of bytes
abbrev IsStripped : List ℕ → List ℕ → Option (Bor (List ℕ)) → Type 0
IsStripped text front r =
    MatchOption r (pointwise nat_eq (take (length front) text) front ≡ false)
    (λ x. (pointwise nat_eq (take (length front) text) front ≡ true) × (x.now ≡ drop (length front) text)
    × (length x.now + length front ≡ length text))

-- in other words
abbrev IsBehind : List ℕ → List ℕ → Option (Bor (List ℕ)) → Type 0
IsBehind text front r = MatchOption r ((rest : List ℕ) → text ≢ front ++ rest) (λ x. text ≡ front ++ x.now)

some_behind : (text front : List ℕ) (r : Option (Bor (List ℕ))) → IsBehind text front r
    → IfSome r (λ x. text ≡ front ++ x.now)
some_behind text front None h = tt
some_behind text front (Some x) h = h

none_behind : (text front : List ℕ) (r : Option (Bor (List ℕ))) → IsBehind text front r
    → IfNone r ((rest : List ℕ) → text ≡ front ++ rest → ⊥)
none_behind text front None h = h
none_behind text front (Some x) h = tt

pub if_behind : (text front : List ℕ) (r : Option (Bor (List ℕ))) → IsStripped text front r
    → IfSome r (λ x. text ≡ front ++ x.now)
if_behind text front r h = some_behind text front r (strip_prefix_is Decides-eqb text front r h)

pub if_not_behind : (text front : List ℕ) (r : Option (Bor (List ℕ))) → IsStripped text front r
    → IfNone r ((rest : List ℕ) → text ≡ front ++ rest → ⊥)
if_not_behind text front r h = none_behind text front r (strip_prefix_is Decides-eqb text front r h)

-- a text that does not go on so behind the key
pub not_keyed : (path key keyed slashed : List ℕ) (r : Option (Bor (List ℕ))) → path ≡ 47 ∷ keyed
    → keyed ≡ key ++ slashed → IfNone r ((rest : List ℕ) → slashed ≡ 47 ∷ rest → ⊥)
    → IfNone r ((rest : List ℕ) → path ≡ 47 ∷ (key ++ 47 ∷ rest) → ⊥)
not_keyed path key keyed slashed (Some x) a b h = tt
not_keyed path key keyed slashed None a b h =
    λ rest whole.
    let tail : keyed ≡ key ++ 47 ∷ rest = cc in
    h rest (append_cancel_left key slashed (47 ∷ rest) (sym b ∙ tail))
