-- Each step keeps the rule of the board. `at` is that the seat has the view, `first` that it is the seat 0.
use Rattle.std.proofs.Common.{◌%◌, ◌*◌, ◌+◌, ◌/◌, ◌<◌, List, [], ◌^◌, ap, arith, get_or-set_other}
use Rattle.std.proofs.Common.{get_or-set_same, le_of_eq, le_refl, length, length-set, max, mod-eq_of_lt, refl}
use Rattle.std.proofs.Common.{replicate, set, slice_index, subst, sym, ℕ, ◌∙◌, ◌∷◌, ◌≡◌, ◌≢◌, ◌≤◌}
use Rattle.std.proofs.lemmas.List.{get_or-replicate, length-replicate, set-get_or}
use Rattle.std.proofs.lemmas.Nat.{div-mul-add}
use Rattle.atomic_table.proofs.Lists.{at_longer}
use Rattle.atomic_table.specs.Table.{Allows, Enters, Me, State, keeps, opening, step}
use Rattle.grid_core.proofs.{Pixels.same_pixel_or_not, Reach.reaches_rises, Reach.reaches_zero}
use Rattle.grid_core.specs.{Raster.Raster, Raster.value_at, declared.pixel.Pixel.Pixel}
use mathlib.Core.Logic.{dite, ⊎_elim}
use mathlib.Core.Option.{none, some-ne-none}
use native.Mathlib.Decide.{dec_le}
use Rattle.live_board.proofs.Boards.{Up, each_push, each_set, found_0, found_up, is_keeper, keeper_now, moved}
use Rattle.live_board.proofs.Boards.{sits_more, sits_up, watched}
use Rattle.live_board.proofs.Places.{number_is, place_after_0, place_differs, place_within, risen, risen_else}
use Rattle.live_board.proofs.Places.{risen_here, small_value}
use Rattle.live_board.specs.Rule.{IsBacked, IsBoard, IsHeld, Sits}
use Rattle.live_board.specs.Steps.{Advances, IsAllowed, Learns, Lifts, MayLift, Reads, Rises}
use Rattle.live_board.specs.Words.{IsOn, Supports, beginner, begun, blank, domain, fact_of, mask_of, max_generation}
use Rattle.live_board.specs.Words.{number, place_of, size_of, taught, with_fact}
use Rattle.live_board.specs.{declared.fact.Fact.Fact, declared.rule.Ground.Ground, declared.rule.SeatView.SeatView}

-- ---- a fetch_max on the word of a pixel

backed_here : (base : Ground) (words : List ℕ) (g : ℕ) (m : Raster) (p : Pixel) (n : ℕ)
    → place_of base p < length words → IsBacked base words g m p → IsAllowed base g m (fact_of p n)
    → IsBacked base (risen words (place_of base p) n) g m p
backed_here base words g m p n inside old may =
    let w : ℕ = slice_index words (place_of base p) in
    let now : slice_index (risen words (place_of base p) n) (place_of base p) ≡ max w n =
    risen_here words (place_of base p) n inside in
    let a : ℕ = n / 65536 in
    let b : ℕ = n % 65536 in
    let whole : a * 65536 + b ≡ n = number_is p n in
    let small : b < 65536 = small_value n in
    let low : a ≤ g = may.0 in
    let was : w < (g + 1) * 65536 = old.not_later in record {
      not_later = omega arith;
      reached = λ v v_small e. dite (dec_le w n)
          (λ le.
          let new : n ≡ g * 65536 + v = omega arith in
          let same : a ≡ g = omega arith in
          let is : b ≡ v = omega arith in subst (Supports base m p) is (may.1 same))
          (λ gt. let same : w ≡ g * 65536 + v = omega arith in old.reached v v_small same);
    }

backed_else : (base : Ground) (words : List ℕ) (g : ℕ) (m : Raster) (p q : Pixel) (n : ℕ)
    → place_of base q ≢ place_of base p → IsBacked base words g m q
    → IsBacked base (risen words (place_of base p) n) g m q
backed_else base words g m p q n other old =
    let same : slice_index (risen words (place_of base p) n) (place_of base q) ≡ slice_index words (place_of base q) =
    risen_else words (place_of base p) (place_of base q) n other in record {
      not_later = subst (λ (z : ℕ). z < (g + 1) * 65536) (sym same) old.not_later;
      reached = λ v v_small e. old.reached v v_small (sym same ∙ e);
    }

backed_lift : (base : Ground) (words : List ℕ) (g : ℕ) (m : Raster) (p : Pixel) (n : ℕ) → IsOn base p
    → place_of base p < length words → ((q : Pixel) → IsOn base q → IsBacked base words g m q)
    → IsAllowed base g m (fact_of p n)
    → (q : Pixel) → IsOn base q → IsBacked base (risen words (place_of base p) n) g m q
backed_lift base words g m p n on inside old may q on_q = ⊎_elim
    (λ (e : p ≡ q). subst (IsBacked base (risen words (place_of base p) n) g m) e
    (backed_here base words g m p n inside (old p on) may))
    (λ (other : p ≡ q → ⊥). backed_else base words g m p q n (place_differs base p q on on_q other) (old q on_q))
    (same_pixel_or_not p q)

risen_up : (base : Ground) (words : List ℕ) (p : Pixel) (n : ℕ) → IsOn base p → place_of base p < length words
    → Up base words (risen words (place_of base p) n)
risen_up base words p n on inside q on_q =
    let after : List ℕ = risen words (place_of base p) n in ⊎_elim
    (λ (e : p ≡ q). subst (λ (z : Pixel). slice_index words (place_of base z) ≤ slice_index after (place_of base z)) e
    (let here : slice_index after (place_of base p) ≡ max (slice_index words (place_of base p)) n =
    risen_here words (place_of base p) n inside in omega arith))
    (λ (other : p ≡ q → ⊥). le_of_eq (sym (risen_else words (place_of base p) (place_of base q) n
    (place_differs base p q on on_q other))))
    (same_pixel_or_not p q)

pub lifts : (base : Ground) (slots id : ℕ) (me : Me ℕ SeatView) (p : Pixel) (n : ℕ) → IsOn base p
    → MayLift base id me.0 p n
    → Allows (IsBoard base) slots id me (place_of base p) (λ k. max k n)
    (Lifts p (step slots (place_of base p) n 0 none) me)
lifts base slots id me p n on may s h hs at lt =
    let v : SeatView = me.0 in
    let i : ℕ = place_of base p in
    let found : ℕ = slice_index s.words i in
    let inside : i < length s.words = subst (λ (z : ℕ). i < z) (sym h.wide) (place_within base p on) in
    let allowed = may s h at in
    let after : List ℕ = risen s.words i n in
    let up = risen_up base s.words p n on inside in
    let here : slice_index after i ≡ max found n = risen_here s.words i n inside in
    let is : number (fact_of p n) ≡ n = number_is p n in
    let held : IsHeld base after h.generation h.marker (fact_of p n) =
    record { on = on; small = small_value n; kept = omega (arith, here, is); reached = allowed.1 } in
    let old = sits_up base s.words after h.generation h.marker up v (h.seats id v at) in
    let w : SeatView = with_fact v i found (fact_of p n) in (
      w,
      keeps,
      tt,
      moved base s h id v w after at (is_keeper s.views h.generation h.marker id v h.keeper at)
          (length-set s.words i (max found n)) (risen_else s.words i 0 n (place_after_0 base p)) up
          (backed_lift base s.words h.generation h.marker p n on inside h.pixels allowed)
          (sits_more base after h.generation h.marker v i found (fact_of p n) old held (up p on)),
      refl,
    )

-- ---- loads

pub loads : (base : Ground) (slots id : ℕ) (me : Me ℕ SeatView) (p : Pixel) → IsOn base p
    → Allows (IsBoard base) slots id me (place_of base p) (λ k. k)
    (Reads p (step slots (place_of base p) 0 0 none) me)
loads base slots id me p on s h hs at lt =
    let v : SeatView = me.0 in
    let i : ℕ = place_of base p in
    let n : ℕ = slice_index s.words i in
    let held : IsHeld base s.words h.generation h.marker (fact_of p n) = record {
      on = on;
      small = small_value n;
      kept = le_of_eq (number_is p n);
      reached = λ e. (h.pixels p on).reached (n % 65536) (small_value n)
          (sym (number_is p n) ∙ ap (λ (k : ℕ). k * 65536 + n % 65536) e);
    } in
    let mine = h.seats id v at in (
      with_fact v i n (fact_of p n),
      keeps,
      tt,
      watched base s h i id v (with_fact v i n (fact_of p n)) at
          (is_keeper s.views h.generation h.marker id v h.keeper at)
          (sits_more base s.words h.generation h.marker v i n (fact_of p n) mine held (le_refl n)),
      (
        refl,
        λ f known e. subst (λ (z : Pixel). number f ≤ slice_index s.words (place_of base z)) e
            (mine.facts f known).kept,
      ),
    )

-- the generation that stands in word 0
in_head : (base : Ground) (s : State ℕ SeatView) (h : IsBoard base s) → slice_index s.words 0 / 65536 ≡ h.generation
in_head base s h =
    let whole : slice_index s.words 0 ≡ h.generation * 65536 + 0 = omega (arith, h.head) in
    ap (λ (k : ℕ). k / 65536) whole ∙ div-mul-add h.generation 65536 0 (omega arith)

pub learns : (base : Ground) (slots id : ℕ) (me : Me ℕ SeatView)
    → Allows (IsBoard base) slots id me 0 (λ k. k) (Learns (step slots 0 0 0 none) me)
learns base slots id me s h hs at lt =
    let v : SeatView = me.0 in
    let w : SeatView = taught v (slice_index s.words 0) in
    let same = in_head base s h in (
      w,
      keeps,
      tt,
      watched base s h 0 id v w at
          (λ first. (same, (is_keeper s.views h.generation h.marker id v h.keeper at first).1))
          (record {
            not_later = le_of_eq same;
            facts = (h.seats id v at).facts;
            found = found_0 base s.words v.steps (slice_index s.words 0) (h.seats id v at).found;
          }),
      (refl, refl),
    )

pub enters : (base : Ground) (slots : ℕ)
    → Enters (IsBoard base) slots 0 (λ n w. Learns (step slots 0 0 0 none) (beginner base, []) n (w, []))
enters base slots s h hs lt =
    let w : SeatView = taught (beginner base) (slice_index s.words 0) in
    let same = in_head base s h in
    let new : Sits base s.words h.generation h.marker w =
    record {
      not_later = le_of_eq same;
      facts = λ f known. absurd (let past : known.0 < 0 = known.1 in omega arith);
      found = found_0 base s.words [] (slice_index s.words 0)
          (λ p n on known. absurd (let past : known.0 < 0 = known.1 in omega arith));
    } in (
      w,
      record {
        generation = h.generation;
        marker = h.marker;
        keeper = (h.keeper.0, at_longer s.views (w ∷ []) 0 h.keeper.0 h.keeper.1, h.keeper.2, h.keeper.3);
        wide = h.wide;
        head = h.head;
        within = h.within;
        pixels = h.pixels;
        seats = each_push (Sits base s.words h.generation h.marker) s.views w new h.seats;
      },
      (refl, refl),
    )

-- ---- additions to word 0

-- a fact says nothing of a later generation
held_older : (base : Ground) (words after : List ℕ) (g : ℕ) (m marker : Raster) (f : Fact)
    → IsBacked base words g m f.pixel
    → slice_index after (place_of base f.pixel) ≡ slice_index words (place_of base f.pixel)
    → IsHeld base words g m f → IsHeld base after (g + 1) marker f
held_older base words after g m marker f backed same held =
    let bound : slice_index words (place_of base f.pixel) < (g + 1) * 65536 = backed.not_later in
    let low : f.generation * 65536 + f.value ≤ slice_index words (place_of base f.pixel) = held.kept in record {
      on = held.on;
      small = held.small;
      kept = subst (λ (z : ℕ). number f ≤ z) (sym same) held.kept;
      reached = λ e. let later : f.generation ≡ g + 1 = e in absurd (omega arith);
    }

-- the next generation
pub begins : (base : Ground) (slots id : ℕ) (me : Me ℕ SeatView) (marker : Raster) → id ≡ 0
    → me.0.generation < max_generation
    → Allows (IsBoard base) slots id me 0 (λ k. (k + 65536) % 2 ^ 64) (Advances marker (step slots 0 65536 0 none) me)
begins base slots id me marker first room s h hs at lt =
    let v : SeatView = me.0 in
    let g : ℕ = h.generation in
    let head : slice_index s.words 0 ≡ g * 65536 = h.head in
    let gen : v.generation ≡ g = (is_keeper s.views g h.marker id v h.keeper at first).0 in
    let free : v.generation < 281474976710655 = room in
    let n : ℕ = (slice_index s.words 0 + 65536) % 2 ^ 64 in
    let now : n ≡ (g + 1) * 65536 =
    (let fits : slice_index s.words 0 + 65536 < 2 ^ 64 = omega arith in mod-eq_of_lt fits)
    ∙ (let next : slice_index s.words 0 + 65536 ≡ (g + 1) * 65536 = omega arith in next) in
    let after : List ℕ = set s.words 0 n in
    let wide : length s.words ≡ size_of base + 1 = h.wide in
    let w : SeatView = begun v (slice_index s.words 0) (v.generation + 1) marker in
    let stays : (p : Pixel) → slice_index after (place_of base p) ≡ slice_index s.words (place_of base p) =
    λ p. get_or-set_other s.words 0 (place_of base p) n 0 (λ e. place_after_0 base p (sym e)) in
    let up : Up base s.words after = λ p on. le_of_eq (sym (stays p)) in
    let older : (f : Fact) → IsHeld base s.words g h.marker f → IsHeld base after (g + 1) marker f =
    λ f held. held_older base s.words after g h.marker marker f (h.pixels f.pixel held.on) (stays f.pixel) held in (
      w,
      keeps,
      tt,
      record {
        generation = g + 1;
        marker = marker;
        keeper = keeper_now s.views id v w (g + 1) marker first at (ap (λ (z : ℕ). z + 1) gen) refl;
        wide = length-set s.words 0 n ∙ wide;
        head = get_or-set_same s.words 0 n 0 (omega arith) ∙ now;
        within = omega arith;
        pixels = λ p on.
            let old : slice_index s.words (place_of base p) < (g + 1) * 65536 = (h.pixels p on).not_later in
            let same : slice_index after (place_of base p) ≡ slice_index s.words (place_of base p) = stays p in
            record { not_later = omega arith; reached = λ y y_small e. absurd (omega (arith, e)) };
        seats = each_set (Sits base after (g + 1) marker) s.views id w
            (record {
              not_later = omega arith;
              facts = λ f known. older f ((h.seats id v at).facts f known);
              found = found_0 base after v.steps (slice_index s.words 0)
                  (found_up base s.words after v.steps up (h.seats id v at).found);
            })
            (λ j u e.
            let low : u.generation ≤ g = (h.seats j u e).not_later in
            record {
              not_later = omega arith;
              facts = λ f known. older f ((h.seats j u e).facts f known);
              found = found_up base s.words after u.steps up (h.seats j u e).found;
            });
      },
      (refl, refl),
    )

-- the marker rises
pub rises : (base : Ground) (slots id : ℕ) (me : Me ℕ SeatView) (marker : Raster) → id ≡ 0
    → ((p : Pixel) → IsOn base p → value_at me.0.marker p ≤ value_at marker p)
    → Allows (IsBoard base) slots id me 0 (λ k. (k + 0) % 2 ^ 64) (Rises marker (step slots 0 0 0 none) me)
rises base slots id me marker first above s h hs at lt =
    let v : SeatView = me.0 in
    let g : ℕ = h.generation in
    let mine = is_keeper s.views g h.marker id v h.keeper at first in
    let fits : slice_index s.words 0 + 0 < 2 ^ 64 = omega (arith, lt) in
    let same : (slice_index s.words 0 + 0) % 2 ^ 64 ≡ slice_index s.words 0 =
    mod-eq_of_lt fits
    ∙ (let none_more : slice_index s.words 0 + 0 ≡ slice_index s.words 0 = omega arith in none_more) in
    let stays : set s.words 0 ((slice_index s.words 0 + 0) % 2 ^ 64) ≡ s.words =
    ap (λ (z : ℕ). set s.words 0 z) same ∙ set-get_or s.words 0 0 in
    let w : SeatView = begun v (slice_index s.words 0) v.generation marker in
    let higher : (p : Pixel) (k : ℕ) → Supports base h.marker p k → Supports base marker p k =
    reaches_rises (domain base) (value_at (mask_of base)) (value_at h.marker) (value_at marker)
    (λ p on. subst (λ (m : Raster). value_at m p ≤ value_at marker p) mine.1 (above p on)) in
    let sits : (u : SeatView) → Sits base s.words g h.marker u → Sits base s.words g marker u = λ u old. record {
      not_later = old.not_later;
      facts = λ f known. let held = old.facts f known in
          record {
            on = held.on;
            small = held.small;
            kept = held.kept;
            reached = λ e. higher f.pixel f.value (held.reached e);
          };
      found = old.found;
    } in
    let own : Sits base s.words g marker v = sits v (h.seats id v at) in
    let keep : IsBoard base (record { words = s.words; homes = s.homes; views = set s.views id w }) = record {
      generation = g;
      marker = marker;
      keeper = keeper_now s.views id v w g marker first at mine.0 refl;
      wide = h.wide;
      head = h.head;
      within = h.within;
      pixels = λ p on. record {
        not_later = (h.pixels p on).not_later;
        reached = λ y y_small e. higher p y ((h.pixels p on).reached y y_small e);
      };
      seats = each_set (Sits base s.words g marker) s.views id w
          (record {
            not_later = own.not_later;
            facts = own.facts;
            found = found_0 base s.words v.steps (slice_index s.words 0) own.found;
          })
          (λ j u e. sits u (h.seats j u e));
    } in (
      w,
      keeps,
      tt,
      subst (λ (l : List ℕ). IsBoard base (record { words = l; homes = s.homes; views = set s.views id w }))
          (sym stays) keep,
      (refl, refl),
    )

-- ---- the beginning

pub opens : (base : Ground) (words : List ℕ) → base.first ≤ max_generation → length words ≡ size_of base + 1
    → slice_index words 0 ≡ base.first * 65536
    → ((p : Pixel) → IsOn base p → slice_index words (place_of base p) ≡ 0)
    → IsBoard base (opening words [] (beginner base))
opens base words within wide head empty =
    let marker : Raster = blank (mask_of base) in record {
      generation = base.first;
      marker = marker;
      keeper = (beginner base, refl, refl, refl);
      wide = wide;
      head = head;
      within = within;
      pixels = λ p on. let none_yet : slice_index words (place_of base p) ≡ 0 = empty p on in record {
        not_later = omega arith;
        reached = λ y y_small e. let is : 0 ≡ y = omega (arith, e) in subst (Supports base marker p) is
            (reaches_zero (domain base) (value_at (mask_of base)) (value_at marker) p on);
      };
      seats = each_push (Sits base words base.first marker) [] (beginner base) (record {
        not_later = le_refl base.first;
        facts = λ f known. absurd (let past : known.0 < 0 = known.1 in omega arith);
        found = λ p n on known. absurd (let past : known.0 < 0 = known.1 in omega arith);
      }) (λ j u there. absurd (some-ne-none u (sym there)));
    }

-- the words of a new board: the generation, and 0 for each pixel
pub opens_at : (base : Ground) (words : List ℕ) (count : ℕ) → count ≡ size_of base
    → words ≡ set (replicate (count + 1) 0) 0 (base.first * 65536) → base.first ≤ max_generation
    → IsBoard base (opening words [] (beginner base))
opens_at base words count same e within =
    let x : ℕ = base.first * 65536 in
    let blanks : List ℕ = replicate (count + 1) 0 in
    let long : length blanks ≡ count + 1 = length-replicate {A = ℕ} (count + 1) 0 in
    opens base words within
    (ap (λ (l : List ℕ). length l) e ∙ length-set blanks 0 x ∙ long ∙ ap (λ (z : ℕ). z + 1) same)
    (ap (λ (l : List ℕ). slice_index l 0) e ∙ get_or-set_same blanks 0 x 0 (omega (arith, long)))
    (λ p on.
    let inside : place_of base p < size_of base + 1 = place_within base p on in
    ap (λ (l : List ℕ). slice_index l (place_of base p)) e
    ∙ get_or-set_other blanks 0 (place_of base p) x 0 (λ z. place_after_0 base p (sym z))
    ∙ get_or-replicate {A = ℕ} (count + 1) (place_of base p) 0 0
    (subst (λ (z : ℕ). place_of base p < z + 1) (sym same) inside))
