-- What a step leaves of the rule, whatever it is.
use Rattle.std.proofs.Common.{◌+◌, ◌++◌, ◌<◌, List, [], ap, arith, le_trans, length, refl, set, slice_index, subst}
use Rattle.std.proofs.Common.{subst₂, sym, ℕ, ◌∙◌, ◌∷◌, ◌≡◌, ◌≢◌, ◌≤◌}
use Rattle.std.proofs.{lemmas.List.set-get_or, lemmas.List.Elements.Contains-push_cases}
use Rattle.atomic_table.proofs.Lists.{at_set, at_snoc, set_else}
use Rattle.atomic_table.specs.Table.{State, keeps, stepped}
use Rattle.grid_core.specs.{Raster.Raster, declared.pixel.Pixel.Pixel}
use lib.ListN.{get_elem?}
use mathlib.Core.Logic.{dite, ⊎_elim}
use mathlib.Core.Option.{some, some-injective, some-ne-none}
use native.Mathlib.Decide.{ℕ_discrete}
use Rattle.live_board.proofs.Places.{place_after_0}
use Rattle.live_board.specs.Rule.{AreFound, IsBacked, IsBoard, IsHeld, IsKeptAt, Sits}
use Rattle.live_board.specs.{declared.board.Board.Board, Seats.ground_of, Seats.table_of}
use Rattle.live_board.specs.Words.{IsOn, place_of, size_of, with_fact}
use Rattle.live_board.specs.{declared.fact.Fact.Fact, declared.rule.Ground.Ground, declared.rule.SeatView.SeatView}

-- a board has a word 0
pub has_word_0 : (board : Board) → 0 < (table_of board).words
has_word_0 board =
    let sized : (table_of board).words ≡ size_of (ground_of board) + 1 = board.sized in omega arith

-- each of the views is so
abbrev pub Each : {V : Type 0} → (V → Type 0) → List V → Type 0
Each {V} P views = (id : ℕ) (v : V) → get_elem? views id ≡ some v → P v

pub each_set : {V : Type 0} (P : V → Type 0) (views : List V) (id : ℕ) (w : V) → P w → Each P views
    → Each P (set views id w)
each_set P views id w new old j u e =
    ⊎_elim (λ (x : (j ≡ id) × (w ≡ u)). subst P x.1 new)
    (λ (x : (j ≢ id) × (get_elem? views j ≡ some u)). old j u x.1) (at_set views id j w u e)

pub each_push : {V : Type 0} (P : V → Type 0) (views : List V) (w : V) → P w → Each P views → Each P (views ++ w ∷ [])
each_push P views w new old j u e =
    ⊎_elim (old j u) (λ (is : w ≡ u). subst P is new) (at_snoc views w u j e)

first_set : (views : List SeatView) (k w : SeatView) → get_elem? views 0 ≡ some k → get_elem? (set views 0 w) 0 ≡ some w
first_set [] k w e = absurd (some-ne-none k (sym e))
first_set (x ∷ xs) k w e = refl

-- the seat 0 steps, and has this generation and this marker
pub keeper_now : (views : List SeatView) (id : ℕ) (v w : SeatView) (g : ℕ) (m : Raster) → id ≡ 0
    → get_elem? views id ≡ some v → w.generation ≡ g → w.marker ≡ m → IsKeptAt (set views id w) g m
keeper_now views id v w g m first at generation marker = (
  w,
  subst (λ (z : ℕ). get_elem? (set views z w) 0 ≡ some w) (sym first)
      (first_set views v w (subst (λ (z : ℕ). get_elem? views z ≡ some v) first at)),
  generation,
  marker,
)

-- the seat 0 keeps generation and marker, if it steps
pub kept_at : (views : List SeatView) (g : ℕ) (m : Raster) (id : ℕ) (v w : SeatView) → IsKeptAt views g m
    → get_elem? views id ≡ some v → (id ≡ 0 → (w.generation ≡ g) × (w.marker ≡ m)) → IsKeptAt (set views id w) g m
kept_at views g m id v w k at keeper = dite (ℕ_discrete id 0)
    (λ first. let now = keeper first in keeper_now views id v w g m first at now.0 now.1)
    (λ other. (k.0, set_else views id 0 w (λ e. other (sym e)) ∙ k.1, k.2, k.3))

-- the view of the seat 0 has generation and marker
pub is_keeper : (views : List SeatView) (g : ℕ) (m : Raster) (id : ℕ) (v : SeatView) → IsKeptAt views g m
    → get_elem? views id ≡ some v → id ≡ 0 → (v.generation ≡ g) × (v.marker ≡ m)
is_keeper views g m id v k at first =
    let here : get_elem? views 0 ≡ some v = subst (λ (z : ℕ). get_elem? views z ≡ some v) first at in
    let is : k.0 ≡ v = some-injective k.0 v (sym k.1 ∙ here) in
    (subst (λ (u : SeatView). u.generation ≡ g) is k.2, subst (λ (u : SeatView). u.marker ≡ m) is k.3)

-- no word of a pixel is less
abbrev pub Up : Ground → List ℕ → List ℕ → Type 0
Up base words after =
    (p : Pixel) → IsOn base p → slice_index words (place_of base p) ≤ slice_index after (place_of base p)

pub found_up : (base : Ground) (words after : List ℕ) (steps : List (ℕ × ℕ)) → Up base words after
    → AreFound base words steps → AreFound base after steps
found_up base words after steps up old p n on known = le_trans (old p n on known) (up p on)

-- one more step, on word 0 or on one that is no less than the number that it found there
pub found_0 : (base : Ground) (words : List ℕ) (steps : List (ℕ × ℕ)) (found : ℕ) → AreFound base words steps
    → AreFound base words (steps ++ (0, found) ∷ [])
found_0 base words steps found old p n on known = ⊎_elim (old p n on)
    (λ (is : ◌≡◌ {A = ℕ × ℕ} (0, found) (place_of base p, n)).
    absurd (place_after_0 base p (ap (λ (e : ℕ × ℕ). e.0) is)))
    (Contains-push_cases steps (0, found) (place_of base p, n) known)

found_more : (base : Ground) (words : List ℕ) (steps : List (ℕ × ℕ)) (word found : ℕ) → AreFound base words steps
    → found ≤ slice_index words word → AreFound base words (steps ++ (word, found) ∷ [])
found_more base words steps word found old low p n on known = ⊎_elim (old p n on)
    (λ (is : ◌≡◌ {A = ℕ × ℕ} (word, found) (place_of base p, n)).
    subst₂ (λ (i k : ℕ). k ≤ slice_index words i) (ap (λ (e : ℕ × ℕ). e.0) is) (ap (λ (e : ℕ × ℕ). e.1) is) low)
    (Contains-push_cases steps (word, found) (place_of base p, n) known)

pub sits_up : (base : Ground) (words after : List ℕ) (g : ℕ) (m : Raster) → Up base words after → (v : SeatView)
    → Sits base words g m v → Sits base after g m v
sits_up base words after g m up v s = record {
  not_later = s.not_later;
  facts = λ f f_in.
      let h = s.facts f f_in in
      record { on = h.on; small = h.small; kept = le_trans h.kept (up f.pixel h.on); reached = h.reached };
  found = found_up base words after v.steps up s.found;
}

-- a seat that knows one more fact, which holds, from a step on a word that is no less than it found there
pub sits_more : (base : Ground) (words : List ℕ) (g : ℕ) (m : Raster) (v : SeatView) (word found : ℕ) (f : Fact)
    → Sits base words g m v → IsHeld base words g m f → found ≤ slice_index words word
    → Sits base words g m (with_fact v word found f)
sits_more base words g m v word found f old new low = record {
  not_later = old.not_later;
  facts = λ y y_in. ⊎_elim (old.facts y) (λ (is : f ≡ y). subst (IsHeld base words g m) is new)
      (Contains-push_cases v.facts f y y_in);
  found = found_more base words v.steps word found old.found low;
}

-- a seat has another view, and no word of a pixel is less: generation and marker stay
pub moved : (base : Ground) (s : State ℕ SeatView) (h : IsBoard base s) (id : ℕ) (v w : SeatView) (after : List ℕ)
    → get_elem? s.views id ≡ some v → (id ≡ 0 → (w.generation ≡ h.generation) × (w.marker ≡ h.marker))
    → length after ≡ length s.words → slice_index after 0 ≡ slice_index s.words 0 → Up base s.words after
    → ((p : Pixel) → IsOn base p → IsBacked base after h.generation h.marker p)
    → Sits base after h.generation h.marker w
    → IsBoard base (record { words = after; homes = s.homes; views = set s.views id w })
moved base s h id v w after at keeper long head up backed sits = record {
  generation = h.generation;
  marker = h.marker;
  keeper = kept_at s.views h.generation h.marker id v w h.keeper at keeper;
  wide = long ∙ h.wide;
  head = head ∙ h.head;
  within = h.within;
  pixels = backed;
  seats = each_set (Sits base after h.generation h.marker) s.views id w sits
      (λ j u e. sits_up base s.words after h.generation h.marker up u (h.seats j u e));
}

-- a load: the words stay
pub watched : (base : Ground) (s : State ℕ SeatView) (h : IsBoard base s) (i id : ℕ) (v w : SeatView)
    → get_elem? s.views id ≡ some v → (id ≡ 0 → (w.generation ≡ h.generation) × (w.marker ≡ h.marker))
    → Sits base s.words h.generation h.marker w
    → IsBoard base (stepped s i (slice_index s.words i) id [] w keeps)
watched base s h i id v w at keeper sits =
    subst (λ (l : List ℕ). IsBoard base (record { words = l; homes = s.homes; views = set s.views id w }))
    (sym (set-get_or s.words i 0))
    (moved base s h id v w s.words at keeper refl refl (λ p on. omega arith) h.pixels sits)
