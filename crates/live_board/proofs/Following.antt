-- How a hand follows what it raises: one neighbour, and some and then others.
use Rattle.std.proofs.Common.{◌+◌, ◌++◌, ◌<◌, Bool, Contains, IsTrue, List, [], ap, ap₂, arith, count_by, inl, inr}
use Rattle.std.proofs.Common.{get_or, length, take, refl, subst, sym, true, false, ℕ, ◌∙◌, ◌∷◌, ◌≡◌, ◌≤◌, ◌⊎◌}
use Rattle.std.proofs.lemmas.{Bool.ltb-true, List.take_more}
use Rattle.std.proofs.lemmas.List.Elements.{Contains-append_cases, Contains-append_left, Contains-append_right}
use Rattle.std.proofs.lemmas.List.Elements.{Contains-push, Contains-push_cases}
use Rattle.grid_core.specs.{Rows.pixel_if, declared.pixel.Pixel.Pixel}
use mathlib.Core.Logic.{⊎_elim}
use Rattle.live_board.proofs.Touching.{only, read_rises, rise_of, risen_is, rises_both, rises_one, touched_both}
use Rattle.live_board.proofs.Touching.{touched_none}
use Rattle.live_board.proofs.Touching.{touched_one}
use Rattle.live_board.proofs.{Rounds.fact_stays, Flooding.IsLater, Flooding.knows_later, Flooding.later_by}
use Rattle.live_board.proofs.{Flooding.touch_known, Flooded.none_risen}
use Rattle.live_board.specs.Following.{GrowsOn, HasTrailed, IsGrowing, IsLeft, IsNamed, IsReadAt, IsReadIn, IsServed}
use Rattle.live_board.specs.Following.{IsTrailOf, KeepsLeft, Trails}
use Rattle.live_board.specs.Floods.{HasGrownFrom, HasSpread, IsInRows, passed}
use Rattle.live_board.specs.declared.flood.Reach.{Reach}
use Rattle.live_board.specs.Rounds.{HasTouched, Touch, has_risen, one_if}
use Rattle.live_board.specs.Seats.{Adds, HasRaised, HasRead, HasStarted, IsFactOf, raised_fact}
use Rattle.live_board.specs.Words.{IsOn, mask_of, number}
use Rattle.live_board.specs.{declared.fact.Fact.Fact, declared.rule.Ground.Ground, declared.rule.SeatView.SeatView}
use Rattle.live_board.specs.{declared.fact.Seen.Seen, declared.fact.Seen.TheVariants.Value, declared.trail.Trail.Trail}

-- no neighbour
pub trails_none : (base : Ground) (from : Fact) (v : SeatView) (was : Trail) → Trails base from [] 0 v v was was
trails_none base from v was = record {
  touches = [];
  touched = touched_none base v v refl;
  each = λ t there. absurd (let past : there.0 < 0 = there.1 in omega arith);
  all = λ q there. absurd (let past : there.0 < 0 = there.1 in omega arith);
  count_is = refl;
  left = λ t there rise. absurd (let past : there.0 < 0 = there.1 in omega arith);
  keeps = λ f l. l;
}

-- one of them
pub trails_one : (base : Ground) (from : Fact) (q : Pixel) (rose : Bool) (old new : SeatView) (was now : Trail)
    → HasRaised base from q rose old new → KeepsLeft was now → (IsTrue rose → IsLeft now (raised_fact base from q))
    → Trails base from (q ∷ []) (one_if rose) old new was now
trails_one base from q rose old new was now raised keeps left =
    let f : Fact = raised_fact base from q in
    let t : Touch = (f, raised.adds.found) in record {
      touches = t ∷ [];
      touched = touched_one base f old new raised.adds;
      each = λ s there. (q, Contains-push [] q, ap (λ (x : Touch). x.0) (sym (only t s there)));
      all = λ r there. subst (λ (z : Pixel). (found : ℕ) × Contains (t ∷ []) (raised_fact base from z, found))
          (only q r there) (raised.adds.found, Contains-push [] t);
      count_is =
          let one : one_if rose ≡ rise_of (has_risen t) = risen_is rose raised.adds.found (number f) raised.rose_is in
          let last : count_by has_risen (t ∷ []) ≡ rise_of (has_risen t) + 0 = rises_one t [] in
          omega arith;
      left = λ s there rise.
          subst (λ (x : Touch). IsTrue (has_risen x) → IsLeft now x.0) (only t s there)
          (λ up. left (raised.rose_is.1 (ltb-true raised.adds.found (number f) up))) rise;
      keeps = keeps;
    }

-- a pixel that may be missing
pub trails_not : (base : Ground) (from : Fact) (b : Bool) (x y : ℕ) (v : SeatView) (was : Trail) → b ≡ false
    → Trails base from (pixel_if b x y) 0 v v was was
trails_not base from b x y v was is =
    subst (λ (e : Bool). Trails base from (pixel_if e x y) 0 v v was was) (sym is) (trails_none base from v was)

pub trails_it : (base : Ground) (from : Fact) (b : Bool) (x y : ℕ) (rose : Bool) (old new : SeatView) (was now : Trail)
    → b ≡ true → HasRaised base from (record { x = x; y = y }) rose old new → KeepsLeft was now
    → (IsTrue rose → IsLeft now (raised_fact base from (record { x = x; y = y })))
    → Trails base from (pixel_if b x y) (one_if rose) old new was now
trails_it base from b x y rose old new was now is raised keeps left =
    subst (λ (e : Bool). Trails base from (pixel_if e x y) (one_if rose) old new was now) (sym is)
    (trails_one base from (record { x = x; y = y }) rose old new was now raised keeps left)

pub trails_fell : (base : Ground) (from : Fact) (b : Bool) (x y : ℕ) (rose : Bool) (old new : SeatView) (was : Trail)
    → b ≡ true → rose ≡ false → HasRaised base from (record { x = x; y = y }) rose old new
    → Trails base from (pixel_if b x y) 0 old new was was
trails_fell base from b x y rose old new was is fell raised =
    subst (λ (n : ℕ). Trails base from (pixel_if b x y) n old new was was) (ap one_if fell)
    (trails_it base from b x y rose old new was was is raised (λ f l. l)
    (λ up. absurd (let wrong : true ≡ false = sym up ∙ fell in cc)))

pub trails_rose : (base : Ground) (from : Fact) (b : Bool) (x y : ℕ) (rose : Bool) (old new : SeatView)
    (was now : Trail) → b ≡ true → rose ≡ true → HasRaised base from (record { x = x; y = y }) rose old new
    → KeepsLeft was now → IsLeft now (raised_fact base from (record { x = x; y = y }))
    → Trails base from (pixel_if b x y) 1 old new was now
trails_rose base from b x y rose old new was now is up raised keeps left =
    subst (λ (n : ℕ). Trails base from (pixel_if b x y) n old new was now) (ap one_if up)
    (trails_it base from b x y rose old new was now is raised keeps (λ _. left))

-- what waits still waits after a step, and after one more fact was noted
pub trail_after : (base : Ground) (f : Fact) (v w : SeatView) (trail : Trail) → Adds base f v w
    → IsTrailOf base v trail → IsTrailOf base w trail
trail_after base f v w trail adds is = record {
  facts = λ x there. fact_stays base x f v w (is.facts x there) adds;
  on = is.on;
  within = is.within;
}

pub trail_noted : (base : Ground) (f : Fact) (v : SeatView) (was now : Trail) → IsTrailOf base v was → IsFactOf v f
    → IsOn base f.pixel
    → ((x : Fact) → Contains now.waiting.items x → Contains was.waiting.items x ⊎ (f ≡ x))
    → (((h : ℕ) → f.pixel.y < h → was.end ≤ h → now.end ≤ h)) → IsTrailOf base v now
trail_noted base f v was now is mine on added within = record {
  facts = λ x there. ⊎_elim (λ (before : Contains was.waiting.items x). is.facts x before)
      (λ (same : f ≡ x). subst (IsFactOf v) same mine) (added x there);
  on = λ x there. ⊎_elim (λ (before : Contains was.waiting.items x). is.on x before)
      (λ (same : f ≡ x). subst (λ (z : Fact). IsOn base z.pixel) same on) (added x there);
  within = within (mask_of base).height on.1 is.within;
}

-- the fact that a raise left is one of the hand
pub raised_is_known : (base : Ground) (from : Fact) (q : Pixel) (rose : Bool) (v w : SeatView) → IsFactOf v from
    → HasRaised base from q rose v w → IsFactOf w (raised_fact base from q)
raised_is_known base from q rose v w mine raised = record {
  known = subst (λ (l : List Fact). Contains l (raised_fact base from q)) (sym raised.adds.facts)
      (Contains-push v.facts (raised_fact base from q));
  current = mine.current ∙ sym raised.adds.generation;
}

-- some, and then others
pub trails_both : (base : Ground) (from : Fact) (ps qs : List Pixel) (count more : ℕ) (old middle new : SeatView)
    (was then now : Trail) → Trails base from ps count old middle was then
    → Trails base from qs more middle new then now
    → Trails base from (ps ++ qs) (count + more) old new was now
trails_both base from ps qs count more old middle new was then now one two = record {
  touches = one.touches ++ two.touches;
  touched = touched_both base one.touches two.touches old middle new one.touched two.touched;
  each = λ t there. ⊎_elim
      (λ (first : Contains one.touches t).
      let is = one.each t first in (is.0, Contains-append_left ps qs is.0 is.1, is.2))
      (λ (second : Contains two.touches t).
      let is = two.each t second in (is.0, Contains-append_right ps qs is.0 is.1, is.2))
      (Contains-append_cases one.touches two.touches t there);
  all = λ q there. ⊎_elim
      (λ (first : Contains ps q).
      let is = one.all q first in
      (is.0, Contains-append_left one.touches two.touches (raised_fact base from q, is.0) is.1))
      (λ (second : Contains qs q).
      let is = two.all q second in
      (is.0, Contains-append_right one.touches two.touches (raised_fact base from q, is.0) is.1))
      (Contains-append_cases ps qs q there);
  count_is = ap₂ (λ (a b : ℕ). a + b) one.count_is two.count_is ∙ sym (rises_both one.touches two.touches);
  left = λ t there rise. ⊎_elim (λ (first : Contains one.touches t). two.keeps t.0 (one.left t first rise))
      (λ (second : Contains two.touches t). two.left t second rise)
      (Contains-append_cases one.touches two.touches t there);
  keeps = λ f l. two.keeps f (one.keeps f l);
}

-- three of them in turn
pub trails_three : (base : Ground) (from : Fact) (ps qs rs : List Pixel) (a b c : ℕ) (u v w x : SeatView)
    (i j k l : Trail) → Trails base from ps a u v i j → Trails base from qs b v w j k → Trails base from rs c w x k l
    → Trails base from (ps ++ qs ++ rs) (a + b + c) u x i l
trails_three base from ps qs rs a b c u v w x i j k l one two three =
    trails_both base from (ps ++ qs) rs (a + b) c u w x i k l
    (trails_both base from ps qs a b u v w i j k one two) three

-- ---- what was served stays so

spread_later : (base : Ground) (v w : SeatView) (f : Fact) → IsLater v w → HasSpread base v f → HasSpread base w f
spread_later base v w f later spread q beside = knows_later v w q (passed base f q) later (spread q beside)

-- a fact whose neighbours were raised from it has spread
trailed_spread : (base : Ground) (f : Fact) (count : ℕ) (v w : SeatView) (was now : Trail) → IsFactOf v f
    → HasTrailed base f count v w was now → HasSpread base w f
trailed_spread base f count v w was now mine trailed q beside =
    let raised = trailed.2.all q ((trailed.1.members q).1 (beside.beside, beside.on)) in
    let g : Fact = raised_fact base f q in record {
      known = g;
      is_known = touch_known base trailed.2.touches v w (g, raised.0) trailed.2.touched raised.1;
      pixel = refl;
      generation = mine.current ∙ sym trailed.2.touched.generation;
      enough = omega arith;
    }

module _ (base : Ground) (f : Fact) (more : ℕ) (v w : SeatView) (was mid now : Trail) (mine : IsFactOf v f)
    (out : (x : Fact) → IsLeft was x → IsLeft mid x ⊎ (f ≡ x))
    (trailed : HasTrailed base f more v w mid now) where
  later : IsLater v w
  later = later_by base trailed.2.touches v w trailed.2.touched

  served_later : (x : Fact) → IsServed base v was x → IsServed base w now x
  served_later x served = ⊎_elim
      (λ (spread : HasSpread base v x). inl (spread_later base v w x later spread))
      (λ (left : IsLeft was x). ⊎_elim (λ (still : IsLeft mid x). inr (trailed.2.keeps x still))
      (λ (is : f ≡ x). inl (subst (HasSpread base w) is
      (trailed_spread base f more v w mid now mine trailed)))
      (out x left))
      served

  pub grows_one : GrowsOn base more v w was now
  grows_one pixels count started g = record {
    touches = g.touches ++ trailed.2.touches;
    touched = touched_both base g.touches trailed.2.touches started v w g.touched trailed.2.touched;
    read = λ p there.
        let r = g.read p there in record {
          loaded = r.loaded;
          of = r.of;
          there = Contains-append_left g.touches trailed.2.touches (r.loaded, number r.loaded) r.there;
          served = λ same. served_later r.loaded (r.served (same ∙ trailed.2.touched.generation));
        };
    served = λ t there rise. ⊎_elim
        (λ (before : Contains g.touches t). served_later t.0 (g.served t before rise))
        (λ (since : Contains trailed.2.touches t). inr (trailed.2.left t since rise))
        (Contains-append_cases g.touches trailed.2.touches t there);
    count_is = ap₂ (λ (a b : ℕ). a + b) g.count_is trailed.2.count_is
        ∙ sym (rises_both g.touches trailed.2.touches);
  }

-- ---- one fact less waits

pub trail_next : (base : Ground) (v : SeatView) (was now : Trail) → IsTrailOf base v was
    → ((x : Fact) → Contains now.waiting.items x → Contains was.waiting.items x) → now.end ≡ was.end
    → IsTrailOf base v now
trail_next base v was now is only same = record {
  facts = λ x there. is.facts x (only x there);
  on = λ x there. is.on x (only x there);
  within = subst (λ (n : ℕ). n ≤ (mask_of base).height) (sym same) is.within;
}

pub grows_more : (base : Ground) (a b : ℕ) (u v w : SeatView) (was mid now : Trail) → GrowsOn base a u v was mid
    → GrowsOn base b v w mid now → GrowsOn base (a + b) u w was now
grows_more base a b u v w was mid now one two pixels count started g =
    subst (λ (n : ℕ). IsGrowing base pixels n started w now)
    (let all : count + a + b ≡ count + (a + b) = omega arith in all)
    (two pixels (count + a) started (one pixels count started g))

served_still : (base : Ground) (v : SeatView) (was now : Trail) (f : Fact) → KeepsLeft was now → IsServed base v was f
    → IsServed base v now f
served_still base v was now f keeps served =
    ⊎_elim (λ (spread : HasSpread base v f). inl spread) (λ (left : IsLeft was f). inr (keeps f left)) served

pub grows_same : (base : Ground) (a : ℕ) (u v : SeatView) (first was now : Trail) → KeepsLeft was now
    → GrowsOn base a u v first was → GrowsOn base a u v first now
grows_same base a u v first was now keeps grows pixels count started g =
    let h = grows pixels count started g in record {
      touches = h.touches;
      touched = h.touched;
      read = λ p there.
          let r = h.read p there in record {
            loaded = r.loaded;
            of = r.of;
            there = r.there;
            served = λ same. served_still base v was now r.loaded keeps (r.served same);
          };
      served = λ t there rise. served_still base v was now t.0 keeps (h.served t there rise);
      count_is = h.count_is;
    }

pub none_left : (was now : Trail) → ((x : Fact) → IsLeft was x → IsLeft now x ⊎ ⊥) → KeepsLeft was now
none_left was now out x left =
    ⊎_elim (λ (still : IsLeft now x). still) (λ (wrong : ⊥). absurd wrong) (out x left)

-- ---- one pixel more is read

pub read_none : (base : Ground) (p : Pixel) (seen : Seen) (v w : SeatView) (was : Trail)
    → (read : HasRead base p seen v w) → (read.loaded.generation ≡ v.generation → ⊥) → IsReadIn base p v w was was
read_none base p seen v w was read differs = record {
  loaded = read.loaded;
  of = read.of;
  adds = read.adds;
  is_loaded = read.is_loaded;
  left = λ same. absurd (differs same);
  keeps = λ f l. l;
}

pub read_is_known : (base : Ground) (p : Pixel) (f : Fact) (v w : SeatView) → HasRead base p (Value f) v w
    → IsFactOf w f
read_is_known base p f v w read = record {
  known = subst (λ (l : List Fact). Contains l f) (sym read.adds.facts)
      (subst (λ (z : Fact). Contains (v.facts ++ read.loaded ∷ []) z) (sym read.seen_is.0)
      (Contains-push v.facts read.loaded));
  current = ap (λ (z : Fact). z.generation) read.seen_is.0 ∙ read.seen_is.1 ∙ sym read.adds.generation;
}

pub read_is_on : (base : Ground) (p : Pixel) (f : Fact) (v w : SeatView) → IsOn base p → HasRead base p (Value f) v w
    → IsOn base f.pixel
read_is_on base p f v w on read =
    subst (IsOn base) (sym (ap (λ (z : Fact). z.pixel) read.seen_is.0 ∙ read.of.pixel)) on

pub growing_more : (base : Ground) (pixels : List Pixel) (p : Pixel) (started v w : SeatView) (was now : Trail)
    → IsGrowing base pixels 0 started v was → IsReadIn base p v w was now
    → IsGrowing base (pixels ++ p ∷ []) 0 started w now
growing_more base pixels p started v w was now g read =
    let t : Touch = (read.loaded, read.adds.found) in
    let one : HasTouched base (t ∷ []) v w = touched_one base read.loaded v w read.adds in
    let later : IsLater v w = later_by base (t ∷ []) v w one in
    let ts : List Touch = g.touches ++ t ∷ [] in
    let keep : (x : Fact) → IsServed base v was x → IsServed base w now x = λ x served.
    ⊎_elim (λ (spread : HasSpread base v x). inl (spread_later base v w x later spread))
    (λ (left : IsLeft was x). inr (read.keeps x left)) served in
    let same : count_by has_risen (t ∷ []) ≡ 0 = read_rises read.loaded read.adds.found [] read.is_loaded in record {
      touches = ts;
      touched = touched_both base g.touches (t ∷ []) started v w g.touched one;
      read = λ q there. ⊎_elim
          (λ (before : Contains pixels q).
          let r = g.read q before in record {
            loaded = r.loaded;
            of = r.of;
            there = Contains-append_left g.touches (t ∷ []) (r.loaded, number r.loaded) r.there;
            served = λ e. keep r.loaded (r.served (e ∙ read.adds.generation));
          })
          (λ (is : p ≡ q). subst (IsReadAt base w now ts) is (record {
            loaded = read.loaded;
            of = read.of;
            there = subst (λ (n : ℕ). Contains ts (read.loaded, n)) read.is_loaded (Contains-push g.touches t);
            served = λ e. inr (read.left (e ∙ read.adds.generation));
          }))
          (Contains-push_cases pixels p q there);
      served = λ s there rise. ⊎_elim
          (λ (before : Contains g.touches s). keep s.0 (g.served s before rise))
          (λ (is : t ≡ s). absurd (none_risen (t ∷ []) t same (Contains-push [] t)
          (subst (λ (z : Touch). IsTrue (has_risen z)) (sym is) rise)))
          (Contains-push_cases g.touches t s there);
      count_is =
          let both = rises_both g.touches (t ∷ []) in
          let zero : 0 ≡ count_by has_risen g.touches = g.count_is in
          omega (arith, both);
    }

pub growing_none : (base : Ground) (v : SeatView) (trail : Trail) → IsGrowing base [] 0 v v trail
growing_none base v trail = record {
  touches = [];
  touched = touched_none base v v refl;
  read = λ p there. absurd (let past : there.0 < 0 = there.1 in omega arith);
  served = λ t there rise. absurd (let past : there.0 < 0 = there.1 in omega arith);
  count_is = refl;
}

-- nothing waits in an empty trail
pub trail_clear : (base : Ground) (v : SeatView) (trail : Trail) → trail.waiting.items ≡ [] → trail.end ≡ 0
    → IsTrailOf base v trail
trail_clear base v trail none end_is = record {
  facts = λ x there. absurd (no x there);
  on = λ x there. absurd (no x there);
  within = omega (arith, end_is);
}
  where
    no : (x : Fact) → Contains trail.waiting.items x → ⊥
    no x there =
        let past = subst (λ (l : List Fact). Contains l x) none there in
        let wrong : past.0 < 0 = past.1 in omega arith

-- what has grown as far as it was followed
pub grown_is : (base : Ground) (pixels : List Pixel) (answer : Reach) (old started new : SeatView) (trail last : Trail)
    → HasStarted old started → IsGrowing base pixels answer.rose started new trail
    → ((f : Fact) → IsLeft trail f → IsNamed last f.pixel.y) → answer.first ≡ last.first → answer.end ≡ last.end
    → last.end ≤ (mask_of base).height → HasGrownFrom base pixels answer old new
grown_is base pixels answer old started new trail last start g named first_is end_is within = record {
  started = started;
  start = start;
  touches = g.touches;
  touched = g.touched;
  read = λ p there.
      let r = g.read p there in (
        r.loaded,
        r.of,
        r.there,
        λ same beyond. spread_or r.loaded (r.served same)
            (λ rows. beyond (subst (IsInRows answer.first answer.end) r.of.pixel rows)),
      );
  spread = λ t there rise beyond. spread_or t.0 (g.served t there rise) beyond;
  within = subst (λ (n : ℕ). n ≤ (mask_of base).height) (sym end_is) within;
  count_is = g.count_is;
}
  where
    spread_or : (f : Fact) → IsServed base new trail f → (IsInRows answer.first answer.end f.pixel → ⊥)
        → HasSpread base new f
    spread_or f served beyond = ⊎_elim (λ (spread : HasSpread base new f). spread)
        (λ (left : IsLeft trail f).
        let rows = named f left in
        absurd (beyond (omega (arith, rows.0, first_is), omega (arith, rows.1, end_is)))) served

-- one fact more of those that wait
pub taken_cases : (xs : List Fact) (k : ℕ) (d f : Fact) → k < length xs → Contains (take (k + 1) xs) f
    → Contains (take k xs) f ⊎ (get_or xs k d ≡ f)
taken_cases xs k d f less there =
    Contains-push_cases (take k xs) (get_or xs k d) f
    (subst (λ (l : List Fact). Contains l f) (take_more xs k d less) there)
