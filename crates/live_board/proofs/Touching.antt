-- A round, as the steps that it took on pixels.
use Rattle.std.proofs.Common.{◌%◌, ◌+◌, ◌++◌, ◌/◌, ◌<◌, Bool, Contains, IsTrue, List, [], ap, ap₂, append-nil}
use Rattle.std.proofs.Common.{append_assoc, arith, cond, count_by, false, le_of_eq, map, nat_lt, refl, subst, sym, true}
use Rattle.std.proofs.Common.{zero-add, ℕ, ◌↔◌, ◌∙◌, ◌∷◌, ◌≡◌, ◌≤◌}
use Rattle.std.proofs.lemmas.{Bool.le-ltb, Bool.lt-ltb, List.append_cancel_left, List.map-append}
use Rattle.std.proofs.lemmas.List.Sums.{sum_by-append, sum_by-cons}
use Rattle.std.proofs.lemmas.List.Elements.{Contains-append_cases, Contains-append_left, Contains-append_right}
use Rattle.std.proofs.lemmas.List.Elements.{Contains-push, Contains-push_cases}
use Rattle.std.proofs.lemmas.Nat.{div-mul-add, mod-mul-add}
use Prim.Native.Nat.{suc, zero}
use Rattle.grid_core.specs.{Neighbours.AreNeighbours, Raster.index_of, declared.pixel.Pixel.Pixel}
use mathlib.Core.List.{cons≢nil, head-eq_of_cons-eq, tail-eq_of_cons-eq}
use mathlib.Core.Logic.{dite, ⊎_elim}
use native.Mathlib.Decide.{dec_le, ℕ_discrete}
use Rattle.live_board.proofs.Places.{place_within}
use Rattle.live_board.specs.Laws.{OneCount, RoundCounts}
use Rattle.live_board.specs.Rounds.{Goes, HasGoneRound, HasTouched, IsSpread, Raises, Spreads, Touch, Visits}
use Rattle.live_board.specs.Rounds.{entry_of, has_risen, one_if, pixel_after}
use Rattle.live_board.specs.Seats.{Adds, HasRaised, HasRead, raised_fact}
use Rattle.live_board.specs.Words.{IsOn, mask_of, number, size_of}
use Rattle.live_board.specs.declared.fact.Seen.TheVariants.{Newer, Older, Value}
use Rattle.live_board.specs.{declared.fact.Fact.Fact, declared.fact.Seen.Seen, declared.rule.Ground.Ground}
use Rattle.live_board.specs.{declared.rule.SeatView.SeatView}

-- ---- steps on pixels, put together

abbrev pub left : Touch → Fact
left t = t.0

pub touched_none : (base : Ground) (old new : SeatView) → new ≡ old → HasTouched base [] old new
touched_none base old new e = record {
  generation = ap (λ (v : SeatView). v.generation) e;
  facts = ap (λ (v : SeatView). v.facts) e ∙ sym (append-nil old.facts);
  steps = ap (λ (v : SeatView). v.steps) e ∙ sym (append-nil old.steps);
}

pub touched_one : (base : Ground) (f : Fact) (old new : SeatView) (adds : Adds base f old new)
    → HasTouched base ((f, adds.found) ∷ []) old new
touched_one base f old new adds =
    record { generation = adds.generation; facts = adds.facts; steps = adds.stepped }

-- a list that grew by two parts grew by both
grew_both : {X : Type 0} (f : Touch → X) (xs ys : List Touch) (u v w : List X) → v ≡ u ++ map f xs → w ≡ v ++ map f ys
    → w ≡ u ++ map f (xs ++ ys)
grew_both {X} f xs ys u v w first then =
    then ∙ ap (λ (l : List X). l ++ map f ys) first ∙ append_assoc u (map f xs) (map f ys)
    ∙ ap (λ (l : List X). u ++ l) (sym (map-append f xs ys))

pub touched_both : (base : Ground) (xs ys : List Touch) (u v w : SeatView) → HasTouched base xs u v
    → HasTouched base ys v w → HasTouched base (xs ++ ys) u w
touched_both base xs ys u v w first then = record {
  generation = then.generation ∙ first.generation;
  facts = grew_both left xs ys u.facts v.facts w.facts first.facts then.facts;
  steps = grew_both (entry_of base) xs ys u.steps v.steps w.steps first.steps then.steps;
}

spread_within : (base : Ground) (g : ℕ) (xs ys : List Touch) (p : Pixel)
    → ((t : Touch) → Contains xs t → Contains ys t) → IsSpread base g xs p → IsSpread base g ys p
spread_within base g xs ys p all s = record {
  loaded = s.loaded;
  of = s.of;
  read = all (s.loaded, number s.loaded) s.read;
  raised = λ same q beside.
      let there = s.raised same q beside in (there.0, all (raised_fact base s.loaded q, there.0) there.1);
}

-- ---- how many of them rose

abbrev pub rise_of : Bool → ℕ
rise_of rose = cond rose 1 0

pub rises_one : (t : Touch) (ts : List Touch)
    → count_by has_risen (t ∷ ts) ≡ rise_of (has_risen t) + count_by has_risen ts
rises_one t ts = sum_by-cons (λ (x : Touch). rise_of (has_risen x)) t ts

pub rises_both : (xs ys : List Touch)
    → count_by has_risen (xs ++ ys) ≡ count_by has_risen xs + count_by has_risen ys
rises_both xs ys = sum_by-append (λ (x : Touch). rise_of (has_risen x)) xs ys

-- what is not less did not rise
stays : (a b : ℕ) → b ≤ a → rise_of (nat_lt a b) ≡ 0
stays a b low = ap rise_of (le-ltb a b low)

pub risen_is : (rose : Bool) (a b : ℕ) → IsTrue rose ↔ (a < b) → one_if rose ≡ rise_of (nat_lt a b)
risen_is true a b is = sym (ap rise_of (lt-ltb a b (is.0 refl)))
risen_is false a b is = sym (dite (dec_le b a) (stays a b) (λ more.
    let less : a < b = omega (arith, more) in
    let wrong : false ≡ true = is.1 less in cc))

-- ---- one neighbour after another

pub record HaveRaised (base : Ground) (from : Fact) (qs : List Pixel) (count : ℕ) (old new : SeatView) : Type 0 where
  pub touches : List Touch
  pub touched : HasTouched base touches old new
  pub each : (t : Touch) → Contains touches t → (q : Pixel) × Contains qs q × (t.0 ≡ raised_fact base from q)
  pub all : (q : Pixel) → Contains qs q → (found : ℕ) × Contains touches (raised_fact base from q, found)
  pub count_is : count ≡ count_by has_risen touches

pub only : {X : Type 0} (q r : X) → Contains (q ∷ []) r → q ≡ r
only q r known = ⊎_elim
    (λ (none : Contains [] r). absurd (let past : none.0 < 0 = none.1 in omega arith))
    (λ (is : q ≡ r). is) (Contains-push_cases [] q r known)

pub raises_touch : (base : Ground) (from : Fact) (qs : List Pixel) (count : ℕ) (old new : SeatView)
    → Raises base from qs count old new → HaveRaised base from qs count old new
raises_touch base from [] count old new done = record {
  touches = [];
  touched = touched_none base old new done.1;
  each = λ t there. absurd (let past : there.0 < 0 = there.1 in omega arith);
  all = λ q known. absurd (let past : known.0 < 0 = known.1 in omega arith);
  count_is = done.0;
}
raises_touch base from (q ∷ qs) count old new done =
    let rose : Bool = done.0 in
    let after : SeatView = done.1 in
    let more : ℕ = done.2 in
    let raised : HasRaised base from q rose old after = done.3 in
    let rest = raises_touch base from qs more after new done.4 in
    let f : Fact = raised_fact base from q in
    let t : Touch = (f, raised.adds.found) in
    let ts : List Touch = t ∷ rest.touches in record {
      touches = ts;
      touched = touched_both base (t ∷ []) rest.touches old after new (touched_one base f old after raised.adds)
          rest.touched;
      each = λ s there. ⊎_elim
          (λ (here : Contains (t ∷ []) s). (
            q,
            Contains-append_left (q ∷ []) qs q (Contains-push [] q),
            ap (λ (x : Touch). x.0) (sym (only t s here)),
          ))
          (λ (later : Contains rest.touches s).
          let is = rest.each s later in (is.0, Contains-append_right (q ∷ []) qs is.0 is.1, is.2))
          (Contains-append_cases (t ∷ []) rest.touches s there);
      all = λ r known. ⊎_elim
          (λ (here : Contains (q ∷ []) r).
          subst (λ (z : Pixel). (found : ℕ) × Contains ts (raised_fact base from z, found)) (only q r here)
          (raised.adds.found, Contains-append_left (t ∷ []) rest.touches t (Contains-push [] t)))
          (λ (later : Contains qs r).
          let there = rest.all r later in
          (there.0, Contains-append_right (t ∷ []) rest.touches (raised_fact base from r, there.0) there.1))
          (Contains-append_cases (q ∷ []) qs r known);
      count_is =
          let one : one_if rose ≡ rise_of (has_risen t) =
          risen_is rose raised.adds.found (number f) raised.rose_is in
          done.5 ∙ ap₂ (λ (a b : ℕ). a + b) one rest.count_is ∙ sym (rises_one t rest.touches);
    }

-- ---- one pixel, and one pixel after another

record HasVisited (base : Ground) (p : Pixel) (count : ℕ) (old new : SeatView) : Type 0 where
  touches : List Touch
  touched : HasTouched base touches old new
  spread : IsSpread base old.generation touches p
  count_is : count ≡ count_by has_risen touches

-- the step of a read does not rise
pub read_rises : (loaded : Fact) (found : ℕ) (ts : List Touch) → found ≡ number loaded
    → count_by has_risen ((loaded, found) ∷ ts) ≡ count_by has_risen ts
read_rises loaded found ts is =
    let none : rise_of (nat_lt found (number loaded)) ≡ 0 = stays found (number loaded) (le_of_eq (sym is)) in
    rises_one (loaded, found) ts ∙ ap (λ (n : ℕ). n + count_by has_risen ts) none ∙ zero-add (count_by has_risen ts)

-- a pixel that was read, and has no value of the generation
read_alone : (base : Ground) (p : Pixel) (seen : Seen) (count : ℕ) (old after new : SeatView)
    (read : HasRead base p seen old after) → (read.loaded.generation ≡ old.generation → ⊥) → count ≡ 0
    → new ≡ after → HasVisited base p count old new
read_alone base p seen count old after new read other none same =
    let t : Touch = (read.loaded, read.adds.found) in record {
      touches = t ∷ [];
      touched = subst (HasTouched base (t ∷ []) old) (sym same) (touched_one base read.loaded old after read.adds);
      spread = record {
        loaded = read.loaded;
        of = read.of;
        read = subst (λ (n : ℕ). Contains (t ∷ []) (read.loaded, n)) read.is_loaded (Contains-push [] t);
        raised = λ is. absurd (other is);
      };
      count_is = none ∙ sym (read_rises read.loaded read.adds.found [] read.is_loaded);
    }

spreads_touch : (base : Ground) (p : Pixel) (seen : Seen) (count : ℕ) (old after new : SeatView)
    → HasRead base p seen old after → Spreads base seen count after new → HasVisited base p count old new
spreads_touch base p (Value f) count old after new read spreads =
    let loaded : Fact = read.loaded in
    let is : f ≡ loaded = read.seen_is.0 in
    let at : f.pixel ≡ p = ap (λ (x : Fact). x.pixel) is ∙ read.of.pixel in
    let rest = raises_touch base f spreads.0 count after new spreads.2 in
    let t : Touch = (loaded, read.adds.found) in
    let ts : List Touch = t ∷ rest.touches in record {
      touches = ts;
      touched = touched_both base (t ∷ []) rest.touches old after new (touched_one base loaded old after read.adds)
          rest.touched;
      spread = record {
        loaded = loaded;
        of = read.of;
        read = subst (λ (n : ℕ). Contains ts (loaded, n)) read.is_loaded
            (Contains-append_left (t ∷ []) rest.touches t (Contains-push [] t));
        raised = λ _ q beside.
            let there = rest.all q ((spreads.1.members q).1
            (subst (λ (z : Pixel). AreNeighbours base.conn z q) (sym at) beside.beside, beside.on)) in (
              there.0,
              subst (λ (x : Fact). Contains ts (raised_fact base x q, there.0)) is
                  (Contains-append_right (t ∷ []) rest.touches (raised_fact base f q, there.0) there.1),
            );
      };
      count_is = rest.count_is ∙ sym (read_rises loaded read.adds.found rest.touches read.is_loaded);
    }
spreads_touch base p Older count old after new read spreads =
    read_alone base p Older count old after new read
    (λ e. let low : read.loaded.generation < old.generation = read.seen_is in omega (arith, low, e)) spreads.0
    spreads.1
spreads_touch base p Newer count old after new read spreads =
    read_alone base p Newer count old after new read
    (λ e. let high : old.generation < read.loaded.generation = read.seen_is in omega (arith, high, e)) spreads.0
    spreads.1

visits_touch : (base : Ground) (p : Pixel) (count : ℕ) (old new : SeatView) → Visits base p count old new
    → HasVisited base p count old new
visits_touch base p count old new visit =
    spreads_touch base p visit.seen count old visit.after new visit.read visit.spreads

record HasGone (base : Ground) (k count : ℕ) (old new : SeatView) : Type 0 where
  touches : List Touch
  touched : HasTouched base touches old new
  spread :
      (p : Pixel) → IsOn base p → index_of (mask_of base).width p < k → IsSpread base old.generation touches p
  count_is : count ≡ count_by has_risen touches

-- a pixel comes after as many others as its place says
pub comes_after : (base : Ground) (p : Pixel) (k : ℕ) → IsOn base p → index_of (mask_of base).width p ≡ k
    → pixel_after base k ≡ p
comes_after base p k on e =
    let w : ℕ = (mask_of base).width in
    λ i. record {
      x = (ap (λ (n : ℕ). n % w) (sym e) ∙ mod-mul-add p.y w p.x on.0) i;
      y = (ap (λ (n : ℕ). n / w) (sym e) ∙ div-mul-add p.y w p.x on.0) i;
    }

goes_touch : (base : Ground) (k count : ℕ) (old new : SeatView) → Goes base k count old new
    → HasGone base k count old new
goes_touch base zero count old new done = record {
  touches = [];
  touched = touched_none base old new done.1;
  spread = λ p on low. absurd (omega (arith, low));
  count_is = done.0;
}
goes_touch base (suc k) count old new done =
    let middle : SeatView = done.0 in
    let before : ℕ = done.1 in
    let here : ℕ = done.2 in
    let first = goes_touch base k before old middle done.3 in
    let last = visits_touch base (pixel_after base k) here middle new done.4 in
    let ts : List Touch = first.touches ++ last.touches in record {
      touches = ts;
      touched = touched_both base first.touches last.touches old middle new first.touched last.touched;
      spread = λ p on low. dite (ℕ_discrete (index_of (mask_of base).width p) k)
          (λ (e : index_of (mask_of base).width p ≡ k).
          subst (IsSpread base old.generation ts) (comes_after base p k on e)
          (spread_within base old.generation last.touches ts (pixel_after base k)
          (λ t known. Contains-append_right first.touches last.touches t known)
          (subst (λ (g : ℕ). IsSpread base g last.touches (pixel_after base k)) first.touched.generation
          last.spread)))
          (λ ne. spread_within base old.generation first.touches ts p
          (λ t known. Contains-append_left first.touches last.touches t known)
          (first.spread p on (omega (arith, low, ne))));
      count_is =
          done.5 ∙ ap₂ (λ (a b : ℕ). a + b) first.count_is last.count_is
          ∙ sym (rises_both first.touches last.touches);
    }

pub round_counts : RoundCounts
round_counts base count old new round =
    let gone = goes_touch base (size_of base) count round.started new round.goes in record {
      started = round.started;
      start = round.start;
      touches = gone.touches;
      touched = gone.touched;
      spread = λ p on. subst (λ (g : ℕ). IsSpread base g gone.touches p) (sym gone.touched.generation)
          (gone.spread p on (omega (arith, place_within base p on)));
      count_is = gone.count_is;
    }

-- ---- one count

same_touches : (base : Ground) (xs ys : List Touch) → map left xs ≡ map left ys
    → map (entry_of base) xs ≡ map (entry_of base) ys → xs ≡ ys
same_touches base [] [] facts entries = refl
same_touches base [] (y ∷ ys) facts entries = absurd (cons≢nil (sym facts))
same_touches base (x ∷ xs) [] facts entries = absurd (cons≢nil facts)
same_touches base (x ∷ xs) (y ∷ ys) facts entries =
    let fact_is : x.0 ≡ y.0 = head-eq_of_cons-eq facts in
    let found_is : x.1 ≡ y.1 = ap (λ (e : ℕ × ℕ). e.1) (head-eq_of_cons-eq entries) in
    let rest : xs ≡ ys = same_touches base xs ys (tail-eq_of_cons-eq facts) (tail-eq_of_cons-eq entries) in
    λ i. (fact_is i, found_is i) ∷ rest i

gone_facts : (base : Ground) (count : ℕ) (old new : SeatView) (g : HasGoneRound base count old new)
    → new.facts ≡ old.facts ++ map left g.touches
gone_facts base count old new g =
    g.touched.facts ∙ ap (λ (l : List Fact). l ++ map left g.touches) g.start.facts

gone_steps : (base : Ground) (count : ℕ) (old new : SeatView) (g : HasGoneRound base count old new)
    → new.steps ≡ old.steps ++ (0, g.start.found) ∷ map (entry_of base) g.touches
gone_steps base count old new g =
    g.touched.steps ∙ ap (λ (l : List (ℕ × ℕ)). l ++ map (entry_of base) g.touches) g.start.stepped
    ∙ append_assoc old.steps ((0, g.start.found) ∷ []) (map (entry_of base) g.touches)

pub one_count : OneCount
one_count base one other old new first second =
    let a = round_counts base one old new first in
    let b = round_counts base other old new second in
    let facts : map left a.touches ≡ map left b.touches =
    append_cancel_left old.facts (map left a.touches) (map left b.touches)
    (sym (gone_facts base one old new a) ∙ gone_facts base other old new b) in
    let entries : map (entry_of base) a.touches ≡ map (entry_of base) b.touches =
    tail-eq_of_cons-eq (append_cancel_left old.steps ((0, a.start.found) ∷ map (entry_of base) a.touches)
    ((0, b.start.found) ∷ map (entry_of base) b.touches)
    (sym (gone_steps base one old new a) ∙ gone_steps base other old new b)) in
    a.count_is ∙ ap (λ (ts : List Touch). count_by has_risen ts) (same_touches base a.touches b.touches facts entries)
    ∙ sym b.count_is
