-- Floods: what each step of one leaves.
use Rattle.std.proofs.Common.{◌+◌, ◌++◌, ◌<◌, Bool, Contains, IsTrue, List, [], ap, ap₂, arith, count_by}
use Rattle.std.proofs.Common.{get_or-set_other, get_or-set_same, inl, inr, length, length-set, map, min, nat_lt, refl}
use Rattle.std.proofs.Common.{set}
use Rattle.std.proofs.Common.{slice_index, subst, sym, ℕ, ◌↔◌, ◌∙◌, ◌∷◌, ◌≡◌, ◌≤◌, ◌⊎◌}
use Rattle.std.proofs.lemmas.Bool.{lt-ltb, ltb-true}
use Rattle.std.proofs.lemmas.List.Elements.{Contains-append_cases, Contains-append_left, Contains-append_right}
use Rattle.std.proofs.lemmas.List.Elements.{Contains-push, Contains-push_cases}
use Rattle.grid_core.proofs.Cells.{index_of-pixel_of, pixel_of-inside}
use Rattle.grid_core.proofs.{Common.map_has, Pixels.same_pixel}
use Rattle.grid_core.specs.{Neighbours.AreNeighbours, Raster.IsFilled, Raster.Raster, Raster.index_of}
use Rattle.grid_core.specs.{declared.pixel.Pixel.Pixel}
use mathlib.Core.Logic.{dite, ⊎_elim}
use native.Mathlib.Decide.{ℕ_discrete}
use Rattle.live_board.proofs.Places.{fact_is, number_is, small_value}
use Rattle.live_board.proofs.Telling.{adds_fact, adds_number}
use Rattle.live_board.proofs.Touching.{left, raises_touch, read_rises, rise_of, risen_is, rises_both, rises_one}
use Rattle.live_board.proofs.Touching.{touched_both, touched_none, touched_one}
use Rattle.live_board.specs.{Closing.IsValueIn, Floods.Knows, Steps.IsAllowed, Steps.MayLift}
use Rattle.live_board.specs.Flooding.{AreLow, HasGivenOut, HasLevel, HasLifted, HasPassedOn, HasTakenIn, IsFounded}
use Rattle.live_board.specs.Flooding.{IsGivenAt}
use Rattle.live_board.specs.Flooding.{IsLowAt, IsPassedAt, drawn_fact}
use Rattle.live_board.specs.Rounds.{HasTouched, Spreads, Touch, has_risen, one_if, pixel_after}
use Rattle.live_board.specs.Seats.{Adds, IsOf, raised_fact}
use Rattle.live_board.specs.Words.{IsOn, fact, fact_of, mask_of, number, place_of, size_of, with_fact}
use Rattle.live_board.specs.declared.fact.Seen.TheVariants.{Value}
use Rattle.live_board.specs.{declared.fact.Fact.Fact, declared.rule.Ground.Ground, declared.rule.SeatView.SeatView}

-- ---- what a seat knows it still knows later

pub record IsLater (v w : SeatView) : Type 0 where
  pub facts : (f : Fact) → Contains v.facts f → Contains w.facts f
  pub generation : w.generation ≡ v.generation

pub later_by : (base : Ground) (touches : List Touch) (v w : SeatView) → HasTouched base touches v w → IsLater v w
later_by base touches v w touched = record {
  facts = λ f known. subst (λ (l : List Fact). Contains l f) (sym touched.facts)
      (Contains-append_left v.facts (map left touches) f known);
  generation = touched.generation;
}

-- what a step left is known
pub touch_known : (base : Ground) (touches : List Touch) (v w : SeatView) (t : Touch) → HasTouched base touches v w
    → Contains touches t → Contains w.facts t.0
touch_known base touches v w t touched there =
    subst (λ (l : List Fact). Contains l t.0) (sym touched.facts)
    (Contains-append_right v.facts (map left touches) t.0 (map_has left touches t there))

pub knows_later : (v w : SeatView) (p : Pixel) (n : ℕ) → IsLater v w → Knows v p n → Knows w p n
knows_later v w p n later knows = record {
  known = knows.known;
  is_known = later.facts knows.known knows.is_known;
  pixel = knows.pixel;
  generation = knows.generation ∙ sym later.generation;
  enough = knows.enough;
}

pub founded_later : (base : Ground) (v w : SeatView) (p : Pixel) (n : ℕ) → IsLater v w → IsFounded base v p n
    → IsFounded base w p n
founded_later base v w p n later founded marker supported =
    founded marker (λ f known same. supported f (later.facts f known) (same ∙ sym later.generation))

-- after a step, and after a fact has spread
pub later_adds : (base : Ground) (f : Fact) (v w : SeatView) → Adds base f v w → IsLater v w
later_adds base f v w adds = later_by base ((f, adds.found) ∷ []) v w (touched_one base f v w adds)

pub later_spread : (base : Ground) (f : Fact) (count : ℕ) (v w : SeatView) → Spreads base (Value f) count v w
    → IsLater v w
later_spread base f count v w spreads =
    let raised = raises_touch base f spreads.0 count v w spreads.2 in
    later_by base raised.touches v w raised.touched

-- ---- cells

pub cell_is : (base : Ground) (k : ℕ) → index_of (mask_of base).width (pixel_after base k) ≡ k
cell_is base k = index_of-pixel_of (mask_of base).width k

pub cell_on : (base : Ground) (k : ℕ) → IsFilled (mask_of base) → k < size_of base → IsOn base (pixel_after base k)
cell_on base k filled low = pixel_of-inside (mask_of base) k filled (omega (arith, low, filled))

-- ---- one step

-- a hand may raise a pixel to what its facts support
pub may_lift : (base : Ground) (id : ℕ) (v : SeatView) (p : Pixel) (value n : ℕ) → value < 65536
    → IsFounded base v p value → n ≡ number (fact p v.generation value) → MayLift base id v p n
may_lift base id v p value n small founded is s h at =
    let sits = h.seats id v at in
    subst (IsAllowed base h.generation h.marker) (sym (fact_is p v.generation value n small is)) (
      sits.not_later,
      λ e. founded h.marker (λ f known same. (sits.facts f known).reached (same ∙ e)),
    )

pub lifted_is : (base : Ground) (v w : SeatView) (p : Pixel) (value n found : ℕ)
    → w ≡ with_fact v (place_of base p) found (fact_of p n) → n ≡ number (fact p v.generation value)
    → value < 65536 → HasLifted base p value (nat_lt found n) v w
lifted_is base v w p value n found e is small = record {
  adds = adds_number base v w n found (fact p v.generation value) e is small;
  rose_is = subst (λ (k : ℕ). IsTrue (nat_lt found n) ↔ (found < k)) is (ltb-true found n, lt-ltb found n);
}

pub level_is : (base : Ground) (v w : SeatView) (p : Pixel) (n generation level : ℕ)
    → w ≡ with_fact v (place_of base p) n (fact_of p n) → v.generation ≡ generation → IsValueIn generation n level
    → HasLevel base p level v w
level_is base v w p n generation level e same told = record {
  loaded = fact_of p n;
  of = record { pixel = refl; small = small_value n };
  adds = adds_fact base v w n (fact_of p n) e;
  is_loaded = sym (number_is p n);
  same = λ is. told.same (is ∙ same);
  other = λ differs. told.other (λ is. differs (is ∙ sym same));
}

-- a cell that was written as far as the mask lets it
pub low_set : (base : Ground) (cells after : List ℕ) (k level : ℕ) → AreLow base cells → k < length cells
    → after ≡ set cells k (min level (slice_index (mask_of base).cells k)) → AreLow base after
low_set base cells after k level low inside is = (
  ap (λ (l : List ℕ). length l) is ∙ long ∙ low.0,
  λ i within. dite (ℕ_discrete i k)
      (λ (e : i ≡ k).
      subst (λ (j : ℕ). slice_index after j ≤ slice_index (mask_of base).cells j) (sym e)
      (let here : slice_index after k ≡ min level (slice_index (mask_of base).cells k) =
      ap (λ (l : List ℕ). slice_index l k) is ∙ get_or-set_same cells k value 0 inside in
      omega arith))
      (λ (ne : i ≡ k → ⊥).
      let there : slice_index after i ≡ slice_index cells i =
      ap (λ (l : List ℕ). slice_index l i) is ∙ get_or-set_other cells k i value 0 ne in
      let was : slice_index cells i ≤ slice_index (mask_of base).cells i =
      low.1 i (omega (arith, within, ap (λ (l : List ℕ). length l) is, long)) in
      omega arith),
)
  where
    value : ℕ
    value = min level (slice_index (mask_of base).cells k)

    long : length (set cells k value) ≡ length cells
    long = length-set cells k value

-- ---- one cell more is read

pub take_none : (base : Ground) (from : ℕ) (cells : List ℕ) (v : SeatView) → HasTakenIn base from from cells v v
take_none base from cells v = record {
  touches = [];
  touched = touched_none base v v refl;
  none_rose = refl;
  read = λ k after before. absurd (omega (arith, after, before));
  each = λ t there. absurd (let past : there.0 < 0 = there.1 in omega arith);
  known = λ k after before. absurd (omega (arith, after, before));
}

pub take_more : (base : Ground) (from to level : ℕ) (cells after : List ℕ) (old middle new : SeatView) → from ≤ to
    → to < length cells → HasTakenIn base from to cells old middle
    → HasLevel base (pixel_after base to) level middle new
    → after ≡ set cells to (min level (slice_index (mask_of base).cells to))
    → HasTakenIn base from (to + 1) after old new
take_more base from to level cells after old middle new low inside taken read is = record {
  touches = ts;
  touched = touched_both base taken.touches (t ∷ []) old middle new taken.touched one;
  none_rose =
      let none : count_by has_risen (t ∷ []) ≡ 0 = read_rises f read.adds.found [] read.is_loaded in
      rises_both taken.touches (t ∷ []) ∙ ap₂ (λ (a b : ℕ). a + b) taken.none_rose none;
  read = λ k next before. dite (ℕ_discrete k to)
      (λ (e : k ≡ to).
      subst (λ (j : ℕ). (loaded : Fact) × IsOf (pixel_after base j) loaded × Contains ts (loaded, number loaded))
      (sym e) (
        f,
        read.of,
        subst (λ (n : ℕ). Contains ts (f, n)) read.is_loaded (Contains-push taken.touches t),
      ))
      (λ ne.
      let there = taken.read k next (omega (arith, before, ne)) in
      (there.0, there.1, Contains-append_left taken.touches (t ∷ []) (there.0, number there.0) there.2));
  each = λ s there. ⊎_elim (λ (was : Contains taken.touches s). before_it s was)
      (λ (is_t : t ≡ s). subst (IsLowAt base from (to + 1) after new.generation) is_t here)
      (Contains-push_cases taken.touches t s there);
  known = λ k next before. dite (ℕ_discrete k to)
      (λ (e : k ≡ to).
      subst (λ (j : ℕ). (slice_index after j ≡ 0) ⊎ Knows new (pixel_after base j) (slice_index after j)) (sym e)
      known_here)
      (λ ne.
      let less : k < to = omega (arith, before, ne) in
      ⊎_elim (λ (zero : slice_index cells k ≡ 0). inl (others k less ∙ zero))
      (λ (knows : Knows middle (pixel_after base k) (slice_index cells k)).
      inr (subst (Knows new (pixel_after base k)) (sym (others k less))
      (knows_later middle new (pixel_after base k) (slice_index cells k)
      (later_by base (t ∷ []) middle new one) knows)))
      (taken.known k next less));
}
  where
    f : Fact
    f = read.loaded

    t : Touch
    t = (f, read.adds.found)

    ts : List Touch
    ts = taken.touches ++ t ∷ []

    one : HasTouched base (t ∷ []) middle new
    one = touched_one base f middle new read.adds

    limit : ℕ
    limit = slice_index (mask_of base).cells to

    mine : slice_index after to ≡ min level limit
    mine = ap (λ (l : List ℕ). slice_index l to) is ∙ get_or-set_same cells to (min level limit) 0 inside

    others : (k : ℕ) → k < to → slice_index after k ≡ slice_index cells k
    others k less =
        ap (λ (l : List ℕ). slice_index l k) is
        ∙ get_or-set_other cells to k (min level limit) 0 (λ e. absurd (omega (arith, less, e)))

    before_it : (s : Touch) → Contains taken.touches s → IsLowAt base from (to + 1) after new.generation s
    before_it s was =
        let l = taken.each s was in record {
          cell = l.cell;
          after = l.after;
          before = omega (arith, l.before);
          pixel = l.pixel;
          low = λ e. subst (λ (n : ℕ). min s.0.value (slice_index (mask_of base).cells l.cell) ≤ n)
              (sym (others l.cell l.before)) (l.low (e ∙ read.adds.generation));
        }

    here : IsLowAt base from (to + 1) after new.generation t
    here = record {
      cell = to;
      after = low;
      before = omega arith;
      pixel = read.of.pixel;
      low = λ e.
          let same : level ≡ f.value = read.same (e ∙ read.adds.generation) in
          let is_least : slice_index after to ≡ min level limit = mine in
          omega arith;
    }

    known_here : (slice_index after to ≡ 0) ⊎ Knows new (pixel_after base to) (slice_index after to)
    known_here = dite (ℕ_discrete f.generation middle.generation)
        (λ (e : f.generation ≡ middle.generation). inr (record {
          known = f;
          is_known = subst (λ (l : List Fact). Contains l f) (sym read.adds.facts) (Contains-push middle.facts f);
          pixel = read.of.pixel;
          generation = e ∙ sym read.adds.generation;
          enough =
              let same : level ≡ f.value = read.same e in
              let is_least : slice_index after to ≡ min level limit = mine in
              omega arith;
        }))
        (λ (differs : f.generation ≡ middle.generation → ⊥).
        let none : level ≡ 0 = read.other differs in
        let is_least : slice_index after to ≡ min level limit = mine in
        inl (omega arith))

-- ---- one cell more is raised to what it has

pub give_none : (base : Ground) (from : ℕ) (cells : List ℕ) (v : SeatView) → HasGivenOut base from from cells 0 v v
give_none base from cells v = record {
  touches = [];
  touched = touched_none base v v refl;
  each = λ t there. absurd (let past : there.0 < 0 = there.1 in omega arith);
  known = λ k after before. absurd (omega (arith, after, before));
  count_is = refl;
}

pub give_more : (base : Ground) (from to count : ℕ) (cells : List ℕ) (rose : Bool) (old middle new : SeatView)
    → from ≤ to → HasGivenOut base from to cells count old middle
    → HasLifted base (pixel_after base to) (slice_index cells to) rose middle new
    → HasGivenOut base from (to + 1) cells (count + one_if rose) old new
give_more base from to count cells rose old middle new low given lifted = record {
  touches = ts;
  touched = touched_both base given.touches (t ∷ []) old middle new given.touched one;
  each = λ s there. subst (λ (g : ℕ). IsGivenAt base from (to + 1) cells g s) (sym lifted.adds.generation)
      (⊎_elim
      (λ (was : Contains given.touches s).
      let l = given.each s was in
      record { cell = l.cell; after = l.after; before = omega (arith, l.before); is = l.is })
      (λ (is_t : t ≡ s). subst (IsGivenAt base from (to + 1) cells middle.generation) is_t
      (record { cell = to; after = low; before = omega arith; is = refl }))
      (Contains-push_cases given.touches t s there));
  known = λ k next before.
      subst (λ (g : ℕ). Contains new.facts (fact (pixel_after base k) g (slice_index cells k)))
      (sym lifted.adds.generation)
      (dite (ℕ_discrete k to)
      (λ (e : k ≡ to).
      subst (λ (j : ℕ). Contains new.facts (fact (pixel_after base j) middle.generation (slice_index cells j)))
      (sym e) (touch_known base (t ∷ []) middle new t one (Contains-push [] t)))
      (λ ne.
      (later_by base (t ∷ []) middle new one).facts (fact (pixel_after base k) middle.generation (slice_index cells k))
      (given.known k next (omega (arith, before, ne)))));
  count_is =
      let more : one_if rose ≡ rise_of (has_risen t) = risen_is rose lifted.adds.found (number f) lifted.rose_is in
      let last : count_by has_risen (t ∷ []) ≡ rise_of (has_risen t) + 0 = rises_one t [] in
      let whole = rises_both given.touches (t ∷ []) in
      let first : count ≡ count_by has_risen given.touches = given.count_is in
      omega (arith, whole);
}
  where
    f : Fact
    f = fact (pixel_after base to) middle.generation (slice_index cells to)

    t : Touch
    t = (f, lifted.adds.found)

    ts : List Touch
    ts = given.touches ++ t ∷ []

    one : HasTouched base (t ∷ []) middle new
    one = touched_one base f middle new lifted.adds

-- ---- one pixel more has raised its neighbours

pub pass_none : (base : Ground) (y : ℕ) (image : Raster) (v : SeatView) → HasPassedOn base y 0 image 0 v v
pass_none base y image v = record {
  touches = [];
  touched = touched_none base v v refl;
  each = λ t there. absurd (let past : there.0 < 0 = there.1 in omega arith);
  all = λ p q row none beside. absurd (omega (arith, none));
  count_is = refl;
}

pub pass_more : (base : Ground) (y x count here : ℕ) (image : Raster) (f : Fact) (old middle new : SeatView)
    → HasPassedOn base y x image count old middle
    → f ≡ drawn_fact middle.generation image (record { x = x; y = y }) → Spreads base (Value f) here middle new
    → HasPassedOn base y (x + 1) image (count + here) old new
pass_more base y x count here image f old middle new passed is spreads =
    let around : List Pixel = spreads.0 in
    let rest = raises_touch base f around here middle new spreads.2 in
    let same : new.generation ≡ middle.generation = rest.touched.generation in
    let ts : List Touch = passed.touches ++ rest.touches in
    let p0 : Pixel = record { x = x; y = y } in record {
      touches = ts;
      touched = touched_both base passed.touches rest.touches old middle new passed.touched rest.touched;
      each = λ s there. subst (λ (g : ℕ). IsPassedAt base y (x + 1) g image s) (sym same)
          (⊎_elim
          (λ (was : Contains passed.touches s).
          let l = passed.each s was in record {
            by = l.by;
            to = l.to;
            row = l.row;
            within = omega (arith, l.within);
            beside = l.beside;
            is = l.is;
          })
          (λ (now : Contains rest.touches s).
          let l = rest.each s now in
          let near = (spreads.1.members l.0).0 l.1 in record {
            by = p0;
            to = l.0;
            row = refl;
            within = omega arith;
            beside = record {
              on = near.1;
              beside = subst (λ (z : Fact). AreNeighbours base.conn z.pixel l.0) is near.0;
            };
            is = l.2 ∙ ap (λ (z : Fact). raised_fact base z l.0) is;
          })
          (Contains-append_cases passed.touches rest.touches s there));
      all = λ p q row low beside.
          subst (λ (g : ℕ). (found : ℕ) × Contains ts (raised_fact base (drawn_fact g image p) q, found)) (sym same)
          (dite (ℕ_discrete p.x x)
          (λ (e : p.x ≡ x).
          let at : p0 ≡ p = same_pixel p0 p (sym e) (sym row) in
          let from : f ≡ drawn_fact middle.generation image p =
          is ∙ ap (λ (z : Pixel). drawn_fact middle.generation image z) at in
          let there = rest.all q ((spreads.1.members q).1
          (subst (λ (z : Fact). AreNeighbours base.conn z.pixel q) (sym from) beside.beside, beside.on)) in (
            there.0,
            subst (λ (z : Fact). Contains ts (raised_fact base z q, there.0)) from
                (Contains-append_right passed.touches rest.touches (raised_fact base f q, there.0) there.1),
          ))
          (λ ne.
          let there = passed.all p q row (omega (arith, low, ne)) beside in (
            there.0,
            Contains-append_left passed.touches rest.touches
                (raised_fact base (drawn_fact middle.generation image p) q, there.0) there.1,
          )));
      count_is =
          ap₂ (λ (a b : ℕ). a + b) passed.count_is rest.count_is ∙ sym (rises_both passed.touches rest.touches);
    }
