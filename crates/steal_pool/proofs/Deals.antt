-- Each step of the deque keeps the rule, and what it says.
use Rattle.std.proofs.Common.{◌≡◌, ◌≢◌, ℕ, zero, suc, ◌+◌, ◌<◌, ◌≤◌, List, [], ◌∷◌, ◌++◌, length, drop, set, sym, refl}
use Rattle.std.proofs.Common.{◌⊎◌, inl, inr, ap, ◌∙◌, subst, ⊎_elim, arith, cond, eqb, eq-eqb, ne_eqb}
use Rattle.std.proofs.lemmas.List.{length-append}
use mathlib.Core.Option.{some, some-ne-none, some-injective}
use mathlib.Core.Logic.{dite}
use native.Mathlib.Decide.{ℕ_discrete}
use lib.ListN.{get_elem?}
use Rattle.crossbeam_deque.specs.Tasks.{Pushes, Takes, Admits, Merges, Learns}
use Rattle.atomic_table.proofs.Lists.{at_set, at_snoc, at_longer, at_last, set_here, set_else}
use Rattle.tile_generations.specs.Jobs.{Job}
use Rattle.steal_pool.specs.declared.rule.EndView.{EndView}
use Rattle.steal_pool.specs.{Deal.view_of, Deal.newcomer, Deal.Places, Deal.Holds, Deal.IsFound, Deal.IsDealt}
use Rattle.steal_pool.specs.{Deal.Gets, Deal.HasPushed, Laws.GotIsPushed, Laws.GotOnce}

pub below : {A : Type 0} (l : List A) (i : ℕ) (a : A) → get_elem? l i ≡ some a → i < length l
below [] i a e = absurd (some-ne-none a (sym e))
below (x ∷ xs) zero a e = omega arith
below (x ∷ xs) (suc i) a e = let r = below xs i a e in omega arith

drop_more : {A : Type 0} (l m : List A) (n : ℕ) → n ≤ length l → drop n (l ++ m) ≡ drop n l ++ m
drop_more l m zero h = refl
drop_more [] m (suc n) h = absurd (omega arith)
drop_more (x ∷ xs) m (suc n) h = drop_more xs m n (omega arith)

-- the first of what is left, and the rest
drop_head : {A : Type 0} (l : List A) (n : ℕ) (x : A) (rest : List A) → drop n l ≡ x ∷ rest
    → (get_elem? l n ≡ some x) × (drop (suc n) l ≡ rest)
drop_head {A} [] zero x rest e = absurd (let z : 0 ≡ suc (length rest) = ap length e in omega arith)
drop_head {A} [] (suc n) x rest e = absurd (let z : 0 ≡ suc (length rest) = ap length e in omega arith)
drop_head {A} (y ∷ ys) zero x rest e = (ap (λ (l : List A). get_elem? l 0) e, ap (λ (l : List A). drop 1 l) e)
drop_head {A} (y ∷ ys) (suc n) x rest e = drop_head ys n x rest e

-- what the one end got stands at the same places in what the other got
abbrev Grows : EndView → EndView → Type 0
Grows v w = (i : ℕ) (e : ℕ × Job) → get_elem? v.got i ≡ some e → get_elem? w.got i ≡ some e

-- a place that was found is found after an end got more
found_set : (views : List EndView) (port : ℕ) (v w : EndView) (places : Places) (k : ℕ) → get_elem? views port ≡ some v
    → Grows v w → IsFound views places k → IsFound (set views port w) places k
found_set views port v w places k at grows f = dite (ℕ_discrete (places k).0 port)
    (λ same.
    let is : f.0 ≡ v = some-injective f.0 v (sym f.2 ∙ (ap (λ (j : ℕ). get_elem? views j) same ∙ at)) in
    let there = ap (λ (j : ℕ). get_elem? (set views port w) j) same in (
      w,
      f.1,
      there ∙ set_here views port w (below views port v at),
      grows (places k).1 (k, f.1) (ap (λ (u : EndView). get_elem? u.got (places k).1) (sym is) ∙ f.3),
    ))
    (λ other. (f.0, f.1, set_else views port (places k).0 w other ∙ f.2, f.3))

-- a newcomer got nothing
got_nothing : (v : EndView) (i k : ℕ) (x : Job) → newcomer ≡ v → get_elem? v.got i ≡ some (k, x) → ⊥
got_nothing v i k x is at = some-ne-none (k, x) (sym (ap (λ (u : EndView). get_elem? u.got i) is ∙ at))

-- the rule holds of an empty deque and its owner
pub begins : IsDealt [] (newcomer ∷ [])
begins = record {
  pushed = [];
  front = 0;
  places = λ k. (0, 0);
  left = refl;
  owner = (newcomer, refl, refl);
  held = λ port v e i k x at. ⊎_elim (λ none. absurd (some-ne-none v (sym none)))
      (λ (is : newcomer ≡ v). absurd (got_nothing v i k x is at)) (at_snoc [] newcomer v port e);
  found = λ k lt. absurd (omega arith);
  within = omega arith;
}

-- a newcomer keeps the rule
pub admits : Admits IsDealt newcomer
admits items views h = record {
  pushed = h.pushed;
  front = h.front;
  places = h.places;
  left = h.left;
  owner = (h.owner.0, at_longer views (newcomer ∷ []) 0 h.owner.0 h.owner.1, h.owner.2);
  held = λ port v e. ⊎_elim (h.held port v)
      (λ (is : newcomer ≡ v). λ i k x at. absurd (got_nothing v i k x is at)) (at_snoc views newcomer v port e);
  found = λ k lt.
      let f = h.found k lt in (f.0, f.1, at_longer views (newcomer ∷ []) (h.places k).0 f.0 f.2, f.3);
  within = h.within;
}

-- a push of the owner keeps the rule
pub pushes : (port : ℕ) (v : EndView) (x : Job) → port ≡ 0
    → Pushes IsDealt port v (x ∷ []) (λ w. w ≡ view_of (v.pushed ++ x ∷ []) v.got)
pushes port v x first items views h at =
    let w : EndView = view_of (v.pushed ++ x ∷ []) v.got in
    let at_0 = ap (λ (j : ℕ). get_elem? views j) first in
    let mine : v ≡ h.owner.0 = some-injective v h.owner.0 (sym at ∙ (at_0 ∙ h.owner.1)) in
    let same : v.pushed ≡ h.pushed = ap (λ (u : EndView). u.pushed) mine ∙ h.owner.2 in
    let now : List Job = h.pushed ++ x ∷ [] in
    let up : (u : EndView) (j : ℕ) → Holds h.pushed h.front h.places j u → Holds now h.front h.places j u =
    λ u j o i k y e. let r = o i k y e in (r.0, at_longer h.pushed (x ∷ []) k y r.1, r.2) in
    let here = set_here views port w (below views port v at) in (
      w,
      record {
        pushed = now;
        front = h.front;
        places = h.places;
        left = drop_more h.pushed (x ∷ []) h.front h.within ∙ ap (λ (l : List Job). l ++ x ∷ []) h.left;
        owner = (
          w,
          ap (λ (j : ℕ). get_elem? (set views port w) j) (sym first) ∙ here,
          ap (λ (l : List Job). l ++ x ∷ []) same,
        );
        held = λ j u e. ⊎_elim
            (λ (t : (j ≡ port) × (w ≡ u)).
            let old = subst (λ (n : ℕ). Holds h.pushed h.front h.places n w) (sym t.0) (h.held port v at) in
            subst (Holds now h.front h.places j) t.1 (up w j old))
            (λ (t : (j ≢ port) × (get_elem? views j ≡ some u)). up u j (h.held j u t.1))
            (at_set views port j w u e);
        found = λ k lt. found_set views port v w h.places k at (λ i e y. y) (h.found k lt);
        within =
            let l : length now ≡ length h.pushed + 1 = length-append h.pushed (x ∷ []) in
            let b : h.front ≤ length h.pushed = h.within in omega arith;
      },
      refl,
    )

pub not_last : {A : Type 0} (l : List A) (a b : A) (i : ℕ) → i ≢ length l → get_elem? (l ++ a ∷ []) i ≡ some b
    → get_elem? l i ≡ some b
not_last [] a b zero n e = absurd (n refl)
not_last [] a b (suc i) n e = e
not_last (x ∷ xs) a b zero n e = e
not_last (x ∷ xs) a b (suc i) n e = not_last xs a b i (λ same. n (ap suc same)) e

-- the job x, at the front, goes to this port
gets_one : (port : ℕ) (v : EndView) (x : Job) (items : List Job) (views : List EndView) (h : IsDealt (x ∷ items) views)
    → get_elem? views port ≡ some v
    → IsDealt items (set views port (view_of v.pushed (v.got ++ (h.front, x) ∷ [])))
gets_one port v x items views h at =
    let got : List (ℕ × Job) = v.got ++ (h.front, x) ∷ [] in
    let w : EndView = view_of v.pushed got in
    let head = drop_head h.pushed h.front x items h.left in
    let spot : ℕ × ℕ = (port, length v.got) in
    let places : Places = λ k. cond (eqb k h.front) spot (h.places k) in
    let here : places h.front ≡ spot = ap (λ b. cond b spot (h.places h.front)) (eq-eqb h.front h.front refl) in
    let kept : (k : ℕ) → k < h.front → places k ≡ h.places k =
    λ k lt. ap (λ b. cond b spot (h.places k)) (ne_eqb k h.front (λ e. omega arith)) in
    let up : (u : EndView) (j : ℕ) → Holds h.pushed h.front h.places j u → Holds h.pushed (h.front + 1) places j u =
    λ u j o i k y e.
    let r = o i k y e in let lt : k < h.front = r.0 in (omega arith, r.1, kept k lt ∙ r.2) in
    let mine = set_here views port w (below views port v at) in
    let last_is = at_last v.got (h.front, x) (length v.got) refl in
    record {
      pushed = h.pushed;
      front = h.front + 1;
      places = places;
      left = ap (λ (n : ℕ). drop n h.pushed) (let e : h.front + 1 ≡ suc h.front = omega arith in e) ∙ head.1;
      owner = dite (ℕ_discrete 0 port)
          (λ e.
          let at_0 = ap (λ (j : ℕ). get_elem? views j) e in
          let is : h.owner.0 ≡ v = some-injective h.owner.0 v (sym h.owner.1 ∙ (at_0 ∙ at)) in (
            w,
            ap (λ (j : ℕ). get_elem? (set views port w) j) e ∙ mine,
            ap (λ (u : EndView). u.pushed) (sym is) ∙ h.owner.2,
          ))
          (λ n. (h.owner.0, set_else views port 0 w n ∙ h.owner.1, h.owner.2));
      held = λ j u e. ⊎_elim
          (λ (t : (j ≡ port) × (w ≡ u)). subst (Holds h.pushed (h.front + 1) places j) t.1
          (λ i k y e'. dite (ℕ_discrete i (length v.got))
          (λ last.
          let there = ap (λ (n : ℕ). get_elem? got n) last ∙ last_is in
          let is : (h.front, x) ≡ (k, y) = some-injective (h.front, x) (k, y) (sym there ∙ e') in
          let k_is : h.front ≡ k = ap (λ (z : ℕ × Job). z.0) is in (
            omega arith,
            subst (λ (z : ℕ × Job). get_elem? h.pushed z.0 ≡ some z.1) is head.0,
            ap places (sym k_is) ∙ (here ∙ λ c. (sym t.0 c, sym last c)),
          ))
          (λ before.
          let old : get_elem? v.got i ≡ some (k, y) = not_last v.got (h.front, x) (k, y) i before e' in
          let held = subst (λ (n : ℕ). Holds h.pushed h.front h.places n v) (sym t.0) (h.held port v at) in
          up v j held i k y old)))
          (λ (t : (j ≢ port) × (get_elem? views j ≡ some u)). up u j (h.held j u t.1))
          (at_set views port j w u e);
      found = λ k lt. dite (ℕ_discrete k h.front)
          (λ e.
          let p : places k ≡ spot = ap places e ∙ here in
          let place_is = ap (λ (n : ℕ). some (n, x)) (sym e) in (
            w,
            x,
            ap (λ (z : ℕ × ℕ). get_elem? (set views port w) z.0) p ∙ mine,
            ap (λ (z : ℕ × ℕ). get_elem? w.got z.1) p ∙ (last_is ∙ place_is),
          ))
          (λ n.
          let old : k < h.front = omega arith in
          let grows : Grows v w = λ i y e. at_longer v.got ((h.front, x) ∷ []) i y e in
          let f = found_set views port v w h.places k at grows (h.found k old) in
          subst
          (λ (z : ℕ × ℕ).
          (u : EndView) × (y : Job) × (get_elem? (set views port w) z.0 ≡ some u) × (get_elem? u.got z.1 ≡ some (k, y)))
          (sym (kept k old)) f);
      within = let b : h.front < length h.pushed = below h.pushed h.front x head.0 in omega arith;
    }

-- a steal of one job keeps the rule
pub gets : (port : ℕ) (v : EndView) → Takes IsDealt port v 1 (Gets v)
gets port v [] items views some_one one h at = absurd (omega arith)
gets port v (x ∷ []) items views some_one one h at =
    (view_of v.pushed (v.got ++ (h.front, x) ∷ []), gets_one port v x items views h at, (h.front, x, refl, refl))
gets port v (x ∷ (y ∷ ys)) items views some_one one h at = absurd (omega arith)

-- what stands in two lists behind one another stands in the first, or so far behind it in the second
at_append : {A : Type 0} (l m : List A) (i : ℕ) (a : A) → get_elem? (l ++ m) i ≡ some a
    → (get_elem? l i ≡ some a) ⊎ ((n : ℕ) × (length l + n ≡ i) × (get_elem? m n ≡ some a))
at_append [] m i a e = inr (i, omega arith, e)
at_append (x ∷ l) m zero a e = inl e
at_append (x ∷ l) m (suc i) a e = ⊎_elim (λ first. inl first)
    (λ (t : (n : ℕ) × (length l + n ≡ i) × (get_elem? m n ≡ some a)). inr (t.0, (let is = t.1 in omega arith), t.2))
    (at_append l m i a e)

at_second : {A : Type 0} (l m : List A) (n : ℕ) (a : A) → get_elem? m n ≡ some a
    → get_elem? (l ++ m) (length l + n) ≡ some a
at_second {A} [] m n a e = ap (λ (i : ℕ). get_elem? m i) (let is : 0 + n ≡ n = omega arith in is) ∙ e
at_second {A} (x ∷ l) m n a e =
    ap (λ (i : ℕ). get_elem? (x ∷ (l ++ m)) i) (let is : length (x ∷ l) + n ≡ suc (length l + n) = omega arith in is)
    ∙ at_second l m n a e

-- the job of the place is at this spot
abbrev IsAt : List EndView → ℕ → ℕ × ℕ → Type 0
IsAt views k spot =
    (v : EndView) × (x : Job) × (get_elem? views spot.0 ≡ some v) × (get_elem? v.got spot.1 ≡ some (k, x))

-- that the owner takes in what another end got keeps the rule: the places that went there are the owner's now
pub merges : (port : ℕ) (v : EndView) (other : ℕ) (w : EndView) → port ≡ 0
    → Merges IsDealt port v other w (view_of v.pushed (v.got ++ w.got)) newcomer
merges port v other w first items views h at apart at_other =
    let both : EndView = view_of v.pushed (v.got ++ w.got) in
    let now : List EndView = set views port both in
    let all : List EndView = set now other newcomer in
    let was : get_elem? views other ≡ some w =
    ⊎_elim (λ (t : (other ≡ port) × (both ≡ w)). absurd (apart t.0))
    (λ (t : (other ≢ port) × (get_elem? views other ≡ some w)). t.1) (at_set views port other both w at_other) in
    let moved : ℕ → ℕ × ℕ = λ k. (port, length v.got + (h.places k).1) in
    let places : Places = λ k. cond (eqb (h.places k).0 other) (moved k) (h.places k) in
    let there : (k : ℕ) → (h.places k).0 ≡ other → places k ≡ moved k =
    λ k e. ap (λ b. cond b (moved k) (h.places k)) (eq-eqb (h.places k).0 other e) in
    let kept : (k : ℕ) → (h.places k).0 ≢ other → places k ≡ h.places k =
    λ k n. ap (λ b. cond b (moved k) (h.places k)) (ne_eqb (h.places k).0 other n) in
    let here : get_elem? now port ≡ some both = set_here views port both (below views port v at) in
    let mine : get_elem? all port ≡ some both = set_else now other port newcomer (λ e. apart (sym e)) ∙ here in
    let at_0 = ap (λ (j : ℕ). get_elem? views j) first in
    let owns : v ≡ h.owner.0 = some-injective v h.owner.0 (sym at ∙ (at_0 ∙ h.owner.1)) in
    record {
      pushed = h.pushed;
      front = h.front;
      places = places;
      left = h.left;
      owner = (
        both,
        ap (λ (j : ℕ). get_elem? all j) (sym first) ∙ mine,
        ap (λ (u : EndView). u.pushed) owns ∙ h.owner.2,
      );
      held = λ j u e. ⊎_elim
          (λ (t : (j ≡ other) × (newcomer ≡ u)). λ i k x got. absurd (got_nothing u i k x t.1 got))
          (λ (t : (j ≢ other) × (get_elem? now j ≡ some u)). ⊎_elim
          (λ (s : (j ≡ port) × (both ≡ u)). subst (Holds h.pushed h.front places j) s.1
          (λ i k x got. ⊎_elim
          (λ (first : get_elem? v.got i ≡ some (k, x)).
          let r = h.held port v at i k x first in
          let at_port : (h.places k).0 ≡ port = ap (λ (z : ℕ × ℕ). z.0) r.2 in (
            r.0,
            r.1,
            kept k (λ e'. apart (sym e' ∙ at_port)) ∙ (r.2 ∙ λ c. (sym s.0 c, i)),
          ))
          (λ (second : (n : ℕ) × (length v.got + n ≡ i) × (get_elem? w.got n ≡ some (k, x))).
          let r = h.held other w was second.0 k x second.2 in
          let place : length v.got + (h.places k).1 ≡ i =
          ap (λ (z : ℕ × ℕ). length v.got + z.1) r.2 ∙ second.1 in (
            r.0,
            r.1,
            there k (ap (λ (z : ℕ × ℕ). z.0) r.2) ∙ λ c. (sym s.0 c, place c),
          ))
          (at_append v.got w.got i (k, x) got)))
          (λ (s : (j ≢ port) × (get_elem? views j ≡ some u)). λ i k x got.
          let r = h.held j u s.1 i k x got in (
            r.0,
            r.1,
            kept k (λ e'. t.0 (sym (ap (λ (z : ℕ × ℕ). z.0) r.2) ∙ e')) ∙ r.2,
          ))
          (at_set views port j both u t.1))
          (at_set now other j newcomer u e);
      found = λ k lt.
          let f = h.found k lt in
          dite (ℕ_discrete (h.places k).0 other)
          (λ e.
          let is : f.0 ≡ w = some-injective f.0 w (sym f.2 ∙ (ap (λ (j : ℕ). get_elem? views j) e ∙ was)) in
          let got : get_elem? w.got (h.places k).1 ≡ some (k, f.1) =
          ap (λ (u : EndView). get_elem? u.got (h.places k).1) (sym is) ∙ f.3 in
          subst (IsAt all k) (sym (there k e)) (both, f.1, mine, at_second v.got w.got (h.places k).1 (k, f.1) got))
          (λ n.
          let grows : Grows v both = λ i e y. at_longer v.got w.got i e y in
          let g = found_set views port v both h.places k at grows f in
          subst (IsAt all k) (sym (kept k n))
          (g.0, g.1, set_else now other (h.places k).0 newcomer n ∙ g.2, g.3));
      within = h.within;
    }

-- ---- what the rule says

pub got_is_pushed : GotIsPushed
got_is_pushed items views owner port i k x dealt at got =
    let same : dealt.owner.0 ≡ owner = some-injective dealt.owner.0 owner (sym dealt.owner.1 ∙ at) in
    let held = dealt.held port got.end got.is_there i k x got.got in
    subst (λ (v : EndView). get_elem? v.pushed k ≡ some x) same
    (ap (λ (l : List Job). get_elem? l k) dealt.owner.2 ∙ held.1)

pub got_once : GotOnce
got_once items views port other i j k x y dealt one two =
    let first = dealt.held port one.end one.is_there i k x one.got in
    let second = dealt.held other two.end two.is_there j k y two.got in
    let same : (port, i) ≡ (other, j) = sym first.2 ∙ second.2 in
    (ap (λ (p : ℕ × ℕ). p.0) same, ap (λ (p : ℕ × ℕ). p.1) same)

-- the owner pushed what it has got
pub learns : (port : ℕ) (v : EndView) → port ≡ 0 → Learns IsDealt port v (λ jobs. HasPushed v)
learns port v first items views h at i k x got =
    let owner : get_elem? views 0 ≡ some v = ap (λ (j : ℕ). get_elem? views j) (sym first) ∙ at in
    got_is_pushed items views v port i k x h owner (record { end = v; is_there = at; got = got })
