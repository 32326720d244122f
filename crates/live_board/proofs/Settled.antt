-- A board that was flooded all over, and in which nobody raised since, has grown.
use Rattle.std.proofs.Common.{◌%◌, ◌*◌, ◌+◌, ◌/◌, ◌<◌, Contains, ap, arith, min, refl, slice_index, subst, sym, ℕ}
use Rattle.std.proofs.Common.{◌∙◌, ◌≡◌, ◌≤◌}
use Rattle.grid_core.proofs.{Images.closed_is_reconstruction, Reach.reaches_within_mask}
use Rattle.grid_core.specs.{Neighbours.AreNeighbours, Raster.Raster, Raster.value_at}
use Rattle.grid_core.specs.declared.pixel.Pixel.{Pixel}
use Rattle.atomic_table.specs.Table.{State}
use lib.ListN.{get_elem?}
use mathlib.Core.Logic.{dite}
use mathlib.Core.Option.{some}
use native.Mathlib.Decide.{ℕ_discrete}
use Rattle.live_board.proofs.{Boards.is_keeper, Endings.value_above, Endings.value_reached}
use Rattle.live_board.proofs.Flooding.{knows_later, touch_known}
use Rattle.live_board.proofs.Places.{number_is, small_value}
use Rattle.live_board.specs.{Closing.AreAllPlanted, Closing.IsReadFrom, Closing.IsValueIn}
use Rattle.live_board.specs.Floods.{FloodedIsGrown, IsFloodedAt, IsInRows, IsSpreadAt, Knows, SpreadIsGrown}
use Rattle.live_board.specs.Floods.{SpreadLasts, passed}
use Rattle.live_board.specs.{Seats.planted_fact}
use Rattle.live_board.specs.Words.{IsOn, Supports, domain, mask_of, number, place_of}
use Rattle.live_board.specs.{declared.fact.Fact.Fact, declared.rule.Ground.Ground, declared.rule.SeatView.SeatView}

-- the value of a word that stands for a fact of the present generation, and of one of another
value_is : (generation n value : ℕ) (f : Fact) → n ≡ number f → f.value < 65536 → f.generation ≡ generation
    → IsValueIn generation n value → value ≡ f.value
value_is generation n value f is small same told =
    let a : ℕ = n / 65536 in
    let b : ℕ = n % 65536 in
    let whole : a * 65536 + b ≡ n = number_is f.pixel n in
    let rest : b < 65536 = small_value n in
    let cut : n ≡ f.generation * 65536 + f.value = is in
    let first : a ≡ generation = omega arith in
    let last : value ≡ b = told.same first in
    omega arith

none_is : (generation n value : ℕ) (f : Fact) → n ≡ number f → f.value < 65536 → (f.generation ≡ generation → ⊥)
    → IsValueIn generation n value → value ≡ 0
none_is generation n value f is small differs told =
    let a : ℕ = n / 65536 in
    let b : ℕ = n % 65536 in
    let whole : a * 65536 + b ≡ n = number_is f.pixel n in
    let rest : b < 65536 = small_value n in
    let cut : n ≡ f.generation * 65536 + f.value = is in
    told.other (λ e. differs (let same : a ≡ generation = e in omega arith))

module _ (base : Ground) (keeper : SeatView) (image : Raster) (read : IsReadFrom base keeper image) where
  abbrev mask : Pixel → ℕ
  mask = value_at (mask_of base)

  abbrev j : Pixel → ℕ
  j = value_at image

  abbrev word : Pixel → ℕ
  word p = slice_index read.last.words (place_of base p)

  mine : (keeper.generation ≡ read.rule.generation) × (keeper.marker ≡ read.rule.marker)
  mine = is_keeper read.last.views read.rule.generation read.rule.marker 0 keeper read.rule.keeper read.keeper_is refl

  told : (p : Pixel) → IsOn base p → IsValueIn read.rule.generation (word p) (j p)
  told p on = subst (λ (g : ℕ). IsValueIn g (word p) (j p)) mine.0 (read.values p on)

  reached : (p : Pixel) → IsOn base p → Supports base keeper.marker p (j p)
  reached p on =
      subst (λ (m : Raster). Supports base m p (j p)) (sym mine.1)
      (value_reached base read.last.words read.rule.generation read.rule.marker p (j p) on (read.rule.pixels p on)
      (told p on))

  -- what a seat knows of the keeper's generation, the image has
  no_less : (id : ℕ) (v : SeatView) (f : Fact) → get_elem? read.last.views id ≡ some v → Contains v.facts f
      → f.generation ≡ keeper.generation → f.value ≤ j f.pixel
  no_less id v f at known same =
      let held = (read.rule.seats id v at).facts f known in
      value_above read.rule.generation (word f.pixel) (j f.pixel) f.value held.small
      (subst (λ (g : ℕ). g * 65536 + f.value ≤ word f.pixel) (same ∙ mine.0) held.kept)
      (read.rule.pixels f.pixel held.on).not_later (told f.pixel held.on)

  closed : ((p : Pixel) → IsOn base p → IsSpreadAt base read.last keeper p) → (p q : Pixel) → IsOn base p
      → IsOn base q → AreNeighbours base.conn p q → min (j p) (mask q) ≤ j q
  closed spread p q on_p on_q beside =
      let at = spread p on_p in
      let f : Fact = at.last in
      let held = (read.rule.seats at.id at.hand at.seat_is).facts f at.is_known in
      let kept : number f ≤ word p = subst (λ (z : Pixel). number f ≤ word z) at.pixel held.kept in
      let most : word p ≤ number f = at.no_more in
      let is : word p ≡ number f = omega arith in
      let small : f.value < 65536 = held.small in
      dite (ℕ_discrete f.generation keeper.generation)
      (λ (same : f.generation ≡ keeper.generation).
      let value : j p ≡ f.value =
      value_is read.rule.generation (word p) (j p) f is small (same ∙ mine.0) (told p on_p) in
      let limit : j p ≤ mask p =
      reaches_within_mask (domain base) mask (value_at keeper.marker) p (j p) (reached p on_p) in
      let at_f : mask f.pixel ≡ mask p = ap mask at.pixel in
      let knows : Knows at.hand q (passed base f q) =
      at.spread (same ∙ sym at.present) q
      (record { on = on_q; beside = subst (λ (z : Pixel). AreNeighbours base.conn z q) (sym at.pixel) beside }) in
      let enough : min (min f.value (mask f.pixel)) (mask q) ≤ knows.known.value = knows.enough in
      let has : knows.known.value ≤ j knows.known.pixel =
      no_less at.id at.hand knows.known at.seat_is knows.is_known (knows.generation ∙ at.present) in
      let at_q : j knows.known.pixel ≡ j q = ap j knows.pixel in
      omega arith)
      (λ (differs : f.generation ≡ keeper.generation → ⊥).
      let none : j p ≡ 0 =
      none_is read.rule.generation (word p) (j p) f is small (λ e. differs (e ∙ sym mine.0)) (told p on_p) in
      omega arith)

  above : AreAllPlanted base keeper → (p : Pixel) → IsOn base p → value_at keeper.marker p ≤ j p
  above planted p on = no_less 0 keeper (planted_fact keeper p) read.keeper_is (planted p on) refl

pub spread_is_grown : SpreadIsGrown
spread_is_grown base keeper image read below planted spread =
    closed_is_reconstruction (domain base) (value_at (mask_of base)) (value_at keeper.marker) (value_at image.raster)
    (λ p on. (above base keeper image.raster read planted p on, reached base keeper image.raster read p on))
    (closed base keeper image.raster read spread)

-- what was flooded has spread
flooded_is_spread : (base : Ground) (s : State ℕ SeatView) (keeper : SeatView) (p : Pixel)
    → IsFloodedAt base s keeper p → IsSpreadAt base s keeper p
flooded_is_spread base s keeper p at = record {
  id = at.id;
  hand = at.new;
  seat_is = at.seat_is;
  present = at.present;
  last = at.last.0;
  is_known = touch_known base at.flooded.touches at.flooded.started at.new at.last at.flooded.touched at.is_last;
  pixel = at.pixel;
  spread = λ same. at.flooded.spread at.last at.is_last
      (subst (IsInRows at.first at.end) (sym at.pixel) at.rows) same;
  no_more = at.no_more;
}

pub flooded_is_grown : FloodedIsGrown
flooded_is_grown base keeper image read below planted flooded =
    spread_is_grown base keeper image read below planted
    (λ p on. flooded_is_spread base read.last keeper p (flooded p on))

-- what has spread stays so
pub spread_lasts : SpreadLasts
spread_lasts base old new f much spread q beside =
    knows_later old new q (passed base f q) (record { facts = much.1; generation = much.0 }) (spread q beside)
