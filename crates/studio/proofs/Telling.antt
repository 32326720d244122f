-- What histories say of chains.
use Rattle.std.proofs.Common.{◌≡◌, ◌+◌, ◌≤◌, List, [], ◌∷◌, ◌++◌, length, refl, ap, sym, ◌∙◌, subst, arith, Option}
use Rattle.std.proofs.Common.{Some, None, ◌⊎◌, ⊎_elim, inl, inr}
use Rattle.std.proofs.lemmas.List.{append-nil, length-append}
use mathlib.Core.List.{IsPrefix}
use Rattle.studio.specs.{declared.shots.history.Entry.Entry, Shots.Shot}
use Rattle.studio.specs.declared.shots.history.Entry.TheVariants.{Announced, Confirmed}
use Rattle.studio.specs.History.{confirmed_from, confirmed, whole}
use Rattle.studio.proofs.Fronts.{prefix_self, prefix_trans}

-- a longer history confirms no less
grows : (p : Option Shot) (xs ys : List Entry) → IsPrefix (confirmed_from p xs) (confirmed_from p (xs ++ ys))
grows p [] ys = (confirmed_from p ys, refl)
grows p (Announced s ∷ xs) ys = grows (Some s) xs ys
grows None (Confirmed ∷ xs) ys = grows None xs ys
grows (Some s) (Confirmed ∷ xs) ys = let r = grows None xs ys in (r.0, ap (λ (l : List Shot). s ∷ l) r.1)

pub confirmed_grows : (xs ys : List Entry) → IsPrefix xs ys → IsPrefix (confirmed xs) (confirmed ys)
confirmed_grows xs ys p = subst (λ (l : List Entry). IsPrefix (confirmed xs) (confirmed l)) p.1 (grows None xs p.0)

announce_at : (p : Option Shot) (xs : List Entry) (s : Shot)
    → confirmed_from p (xs ++ Announced s ∷ []) ≡ confirmed_from p xs
announce_at p [] s = refl
announce_at p (Announced t ∷ xs) s = announce_at (Some t) xs s
announce_at None (Confirmed ∷ xs) s = announce_at None xs s
announce_at (Some t) (Confirmed ∷ xs) s = ap (λ (l : List Shot). t ∷ l) (announce_at None xs s)

next_at : (p : Option Shot) (xs : List Entry) (s : Shot)
    → confirmed_from p ((xs ++ Announced s ∷ []) ++ Confirmed ∷ []) ≡ confirmed_from p xs ++ s ∷ []
next_at p [] s = refl
next_at p (Announced t ∷ xs) s = next_at (Some t) xs s
next_at None (Confirmed ∷ xs) s = next_at None xs s
next_at (Some t) (Confirmed ∷ xs) s = ap (λ (l : List Shot). t ∷ l) (next_at None xs s)

-- to announce a shot confirms nothing
pub announced : (old mid : List Entry) (s : Shot) → mid ≡ old ++ Announced s ∷ [] → confirmed mid ≡ confirmed old
announced old mid s is = ap confirmed is ∙ announce_at None old s

-- the chain up to a shot that is announced is the chain so far, and that shot
pub announced_next : (old mid : List Entry) (s : Shot)
    → mid ≡ old ++ Announced s ∷ [] → whole mid ≡ confirmed old ++ s ∷ []
announced_next old mid s is = ap whole is ∙ next_at None old s

-- once it is confirmed, the chain is the one up to the shot that was announced
pub confirmed_next : (mid new : List Entry) → new ≡ mid ++ Confirmed ∷ [] → confirmed new ≡ whole mid
confirmed_next mid new is = ap confirmed is

-- what is told of a confirmation is one entry longer than what is shown, which was announced
pub abreast_next : (mid new shown told : List Entry) → new ≡ mid ++ Confirmed ∷ [] → shown ≡ mid → told ≡ new
    → length told ≤ length shown + 1
abreast_next mid new shown told is same also =
    let long : length told ≡ length mid + 1 = ap (λ (l : List Entry). length l) (also ∙ is) ∙ length-append mid _ in
    let short : length shown ≡ length mid = ap (λ (l : List Entry). length l) same in
    omega (arith, long, short)

-- what a show does to the history
pub ruleset one_shown = (announced, announced_next, confirmed_next)

-- no entry confirms more than a confirmation
entry_at : (p : Option Shot) (xs : List Entry) (e : Entry)
    → IsPrefix (confirmed_from p (xs ++ e ∷ [])) (confirmed_from p (xs ++ Confirmed ∷ []))
entry_at p [] (Announced s) = (confirmed_from p (Confirmed ∷ []), refl)
entry_at p [] Confirmed = prefix_self (confirmed_from p (Confirmed ∷ []))
entry_at p (Announced t ∷ xs) e = entry_at (Some t) xs e
entry_at None (Confirmed ∷ xs) e = entry_at None xs e
entry_at (Some t) (Confirmed ∷ xs) e = let r = entry_at None xs e in (r.0, ap (λ (l : List Shot). t ∷ l) r.1)

-- a history goes on by one entry at most
one_more : (xs r : List Entry) → length r ≤ 1 → IsPrefix (confirmed (xs ++ r)) (whole xs)
one_more xs [] le =
    let P : List Entry → Type 0 = λ l. IsPrefix (confirmed l) (whole xs) in
    subst P (sym (append-nil xs)) (grows None xs (Confirmed ∷ []))
one_more xs (e ∷ []) le = entry_at None xs e
one_more xs (e ∷ (f ∷ r)) le = absurd (omega arith)

-- the list goes on behind another by one element at most
abbrev GoesOn : List Entry → List Entry → Type 0
GoesOn x t = (r : List Entry) × (length r ≤ 1) × (x ++ r ≡ t)

-- of two beginnings of one history the first begins the second, or goes on behind it
short : (t x n : List Entry) → IsPrefix t n → IsPrefix x n → length t ≤ length x + 1 → IsPrefix t x ⊎ GoesOn x t
short [] x n p q le = inl (x, refl)
short (e ∷ t) [] n p q le = inr (e ∷ t, omega arith, refl)
short (e ∷ t) (f ∷ x) [] p q le = absurd (cc (p.1))
short (e ∷ t) (f ∷ x) (g ∷ n) p q le =
    let heads : e ≡ f = cc (p.1, q.1) in
    ⊎_elim (λ (i : IsPrefix t x). inl (i.0, cc (heads, i.1))) (λ (i : GoesOn x t). inr (i.0, i.1, cc (heads, i.2)))
    (short t x n (p.0, cc (p.1)) (q.0, cc (q.1)) (omega arith))

-- what a history confirms begins the chain of each that is at most one entry shorter
pub learnt_begins : (t x n : List Entry) → IsPrefix t n → IsPrefix x n → length t ≤ length x + 1
    → IsPrefix (confirmed t) (whole x)
learnt_begins t x n p q le =
    let P : List Entry → Type 0 = λ l. IsPrefix (confirmed l) (whole x) in
    let so_far : IsPrefix (confirmed x) (whole x) = grows None x (Confirmed ∷ []) in
    ⊎_elim
    (λ (i : IsPrefix t x). prefix_trans (confirmed t) (confirmed x) (whole x) (confirmed_grows t x i) so_far)
    (λ (i : GoesOn x t). subst P i.2 (one_more x i.0 i.1))
    (short t x n p q le)
