-- Each step keeps the rule of what is published.
use Rattle.std.proofs.Common.{◌≡◌, ◌≢◌, ℕ, List, [], ◌∷◌, ◌++◌, set, sym, refl, ap, ◌∙◌, subst, ⊎_elim, All, Some, fold}
use Rattle.std.proofs.Common.{◌⊎◌, Result, Ok, Err, false}
use Rattle.std.proofs.{lemmas.List.Sums.fold-append, lemmas.List.Elements.All-nil, lemmas.List.Elements.All-cons}
use Rattle.std.proofs.{lemmas.List.Elements.All-head, lemmas.Bool.false≢true}
use Rattle.core.specs.Result.{MatchResult, is_err}
use mathlib.Core.Option.{some, some-ne-none}
use mathlib.Core.List.{IsPrefix}
use lib.ListN.{get_elem?}
use Rattle.crossbeam_utils.specs.Register.{Admits, TurnsAt, Turns, Forks, Merges}
use Rattle.atomic_table.proofs.Lists.{at_set}
use Rattle.live_board.proofs.Boards.{each_push, each_set}
use Rattle.logbook.specs.Pages.{Book}
use Rattle.studio.specs.{declared.shots.shown.Shown.Shown, declared.shots.shown.Published.Published, Shots.Shot}
use Rattle.studio.specs.{declared.shots.rule.ChainView.ChainView, Shots.IsSound, Chains.IsChain, Chains.last_of}
use Rattle.studio.specs.Publishing.{IsPublished, IsShown, Fits, Shows, Looks, published, chain, informed, newcomer}
use Rattle.studio.specs.Publishing.{view_of, books, taken, IsNext}
use Rattle.studio.proofs.Fronts.{prefix_self, prefix_trans}
use Rattle.studio.proofs.Chains.{chain_one, chain_snoc, last_snoc}

-- a newcomer knows nothing
fits_new : (p : Published) → Fits p newcomer
fits_new p = (All-nil (λ (b : Book). b ≡ p.prefix.reached.book), (chain p, refl))

fits_informed : (p : Published) → Fits p (informed p)
fits_informed p =
    let P : Book → Type 0 = λ b. b ≡ p.prefix.reached.book in
    (All-cons P p.prefix.reached.book [] refl (All-nil P), prefix_self (chain p))

-- the chain goes on by some shots, or by none
fits_on : (p q : Published) → q.prefix.reached.book ≡ p.prefix.reached.book → IsPrefix (chain p) (chain q)
    → (v : ChainView) → Fits p v → Fits q v
fits_on p q book on v f = (
  subst (λ (b : Book). All (λ c. c ≡ b) (books v)) (sym book) f.0,
  prefix_trans v.seen (chain p) (chain q) f.1 on,
)

-- the first shot is published before any thread knows of it
pub starts : (p : Published) (s : Shot) → p.shot ≡ s → chain p ≡ s ∷ [] → IsSound s → IsPublished p (newcomer ∷ [])
starts p s is one sound = record {
  sound = subst (λ (l : List Shot). IsChain l) (sym one) (chain_one s sound);
  last = ap last_of one ∙ ap Some (sym is);
  each = each_push (Fits p) [] newcomer (fits_new p) (λ j v e. absurd (some-ne-none v (sym e)));
}

pub admits : Admits IsShown newcomer
admits x views h = record {
  sound = h.sound;
  last = h.last;
  each = each_push (Fits (published x)) views newcomer (fits_new (published x)) h.each;
}

-- the same is published again
repeats : (seat : ℕ) (v : ChainView) (x y : Shown) → published y ≡ published x → TurnsAt IsShown seat v x y Shows
repeats seat v x y same views h at =
    let p = published x in
    let P : Published → Type 0 = λ q. IsPublished q (set views seat (informed q)) in (
      informed (published y),
      subst P (sym same) (record {
        sound = h.sound;
        last = h.last;
        each = each_set (Fits p) views seat (informed p) (fits_informed p) h.each;
      }),
      refl,
    )

-- one shot more
goes_on : (seat : ℕ) (v : ChainView) (x y : Shown) → IsNext (published x) (published y)
    → TurnsAt IsShown seat v x y Shows
goes_on seat v x y n views h at =
    let p = published x in
    let q = published y in
    let on : IsPrefix (chain p) (chain q) = (q.shot ∷ [], sym n.longer) in
    let grown : IsChain (chain p ++ q.shot ∷ []) = chain_snoc (chain p) p.shot q.shot h.sound h.last n.follows in (
      informed q,
      record {
        sound = subst (λ (l : List Shot). IsChain l) (sym n.longer) grown;
        last = ap last_of n.longer ∙ last_snoc (chain p) q.shot;
        each = each_set (Fits q) views seat (informed q) (fits_informed q)
            (λ j u e. fits_on p q n.book on u (h.each j u e));
      },
      refl,
    )

pub looks : (seat : ℕ) (v : ChainView) → Turns IsShown seat v (λ (x : Shown). x) Looks
looks seat v x views h at =
    let p = published x in
    let mine = h.each seat v at in
    let w : ChainView = view_of v.prefixes (chain p) in (
      w,
      record {
        sound = h.sound;
        last = h.last;
        each = each_set (Fits p) views seat w (mine.0, prefix_self (chain p)) h.each;
      },
      record { view = refl; sound = h.sound; last = h.last; fits = mine },
    )

pub forks : (seat : ℕ) (v : ChainView) → Forks IsShown seat v v v
forks seat v x views h at =
    let F = Fits (published x) in
    let mine : F v = h.each seat v at in
    record {
      sound = h.sound;
      last = h.last;
      each = each_push F (set views seat v) v mine (each_set F views seat v mine h.each);
    }

pub merges : (seat : ℕ) (v : ChainView) (other : ℕ) (w : ChainView) → Merges IsShown seat v other w w newcomer
merges seat v other w x views h at apart there =
    let p = published x in
    let mine : Fits p w =
    ⊎_elim
    (λ (i : (other ≡ seat) × (w ≡ w)). absurd (apart i.0))
    (λ (i : (other ≢ seat) × (get_elem? views other ≡ some w)). h.each other w i.1)
    (at_set views seat other w w there) in
    record {
      sound = h.sound;
      last = h.last;
      each = each_set (Fits p) (set views seat w) other newcomer (fits_new p)
          (each_set (Fits p) views seat w mine h.each);
    }

pub fold_last : (p : Published) (xs : List Shown) (x : Shown) → fold taken p (xs ++ x ∷ []) ≡ taken p x
fold_last p xs x = fold-append taken p xs (x ∷ [])

-- what is pending is published, where that may come next
pub publishes : (seat : ℕ) (v : ChainView) (x next : Shown) (pend : List Shown)
    → IsNext (published x) (fold taken (published x) pend) → published next ≡ fold taken (published x) pend
    → TurnsAt IsShown seat v x next Shows
publishes seat v x next pend ok is =
    goes_on seat v x next (subst (λ (q : Published). IsNext (published x) q) (sym is) ok)

-- nothing is pending
pub publishes_again : (seat : ℕ) (v : ChainView) (x next : Shown) (pend : List Shown) → pend ≡ []
    → published next ≡ fold taken (published x) pend → TurnsAt IsShown seat v x next Shows
publishes_again seat v x next pend none is =
    repeats seat v x next (is ∙ ap (λ (l : List Shown). fold taken (published x) l) none)

-- what is pending, once one more is, is published as that one
pub pending_taken : (p : Published) (x : Shown) (old new : List Shown) → new ≡ old ++ x ∷ []
    → fold taken p new ≡ taken p x
pending_taken p x old new is = ap (λ (l : List Shown). fold taken p l) is ∙ fold_last p old x

-- so it may come next where that one may
pub next_pending : (x was now : Shown) (old new : List Shown) → now ≡ was → new ≡ old ++ x ∷ []
    → IsNext (published was) (published x) → IsNext (published now) (fold taken (published now) new)
next_pending x was now old new same is next =
    subst (λ (q : Published). IsNext (published now) q) (sym (pending_taken (published now) x old new is))
    (subst (λ (v : Shown). IsNext (published v) (published x)) (sym same) next)

-- the only history that a thread knows is that of what is published
pub one_book : (p : Published) (v : ChainView) (b : Book) → books v ≡ b ∷ [] → Fits p v → p.prefix.reached.book ≡ b
one_book p v b is f =
    let P : Book → Type 0 = λ c. c ≡ p.prefix.reached.book in
    sym (All-head P b [] (subst (λ (l : List Book). All P l) is f.0))

-- either of them
pub publishes_any : (seat : ℕ) (v : ChainView) (x next : Shown) (pend : List Shown)
    → (pend ≡ []) ⊎ IsNext (published x) (fold taken (published x) pend)
    → published next ≡ fold taken (published x) pend → TurnsAt IsShown seat v x next Shows
publishes_any seat v x next pend may is =
    ⊎_elim
    (λ (none : pend ≡ []). publishes_again seat v x next pend none is)
    (λ (ok : IsNext (published x) (fold taken (published x) pend)). publishes seat v x next pend ok is)
    may

-- what holds of each success holds where there was no error
pub told_unless_err : {T E : Type 0} (r : Result T E) (A : Type 0) → MatchResult r (λ _. A) (λ _. Unit {0})
    → false ≡ is_err r → A
told_unless_err (Ok x) A told none = told
told_unless_err (Err e) A told none = absurd (false≢true none)

-- where nothing was pending the same is published, whether memory ran out or not
pub shown_again : {T E : Type 0} (r : Result T E) (was now : Shown) (pend : List Shown) → pend ≡ []
    → MatchResult r (λ _. published now ≡ fold taken (published was) pend) (λ _. now ≡ was)
    → published now ≡ published was
shown_again (Ok x) was now pend none is = is ∙ ap (λ (l : List Shown). fold taken (published was) l) none
shown_again (Err e) was now pend none is = ap published is
