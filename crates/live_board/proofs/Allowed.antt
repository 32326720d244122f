-- What the keeper and a hand may ask a word to become.
use Rattle.std.proofs.Common.{◌*◌, ◌+◌, ◌<◌, Contains, arith, min, slice_index, subst, sym, ℕ, ◌≡◌, ◌≤◌}
use Rattle.grid_core.proofs.{Pixels.AreNeighbours-sym, Reach.reaches_by_step, Reach.reaches_here, Reach.reaches_lower}
use Rattle.grid_core.specs.{Raster.Raster, Raster.value_at, declared.pixel.Pixel.Pixel}
use Rattle.live_board.proofs.{Boards.is_keeper, Places.fact_is}
use Rattle.live_board.specs.{Seats.IsBeside, Seats.planted_fact, Seats.raised_fact, Steps.IsAllowed, Steps.MayLift}
use Rattle.live_board.specs.{declared.fact.Fact.Fact, declared.rule.Ground.Ground, declared.rule.SeatView.SeatView}
use Rattle.live_board.specs.Words.{IsOn, Supports, domain, mask_of, number, place_of}

-- the keeper may plant its marker
pub may_plant : (base : Ground) (id : ℕ) (v : SeatView) (p : Pixel) (n : ℕ) → id ≡ 0 → IsOn base p
    → value_at v.marker p ≤ value_at (mask_of base) p → value_at v.marker p < 65536
    → n ≡ number (planted_fact v p) → MayLift base id v p n
may_plant base id v p n first on below small is s h at =
    let mine = is_keeper s.views h.generation h.marker id v h.keeper at first in
    let x : ℕ = value_at v.marker p in
    let reach : Supports base v.marker p x =
    reaches_here (domain base) (value_at (mask_of base)) (value_at v.marker) p x on below (omega arith) in
    subst (IsAllowed base h.generation h.marker) (sym (fact_is p v.generation x n small is))
    (omega (arith, mine.0), λ e. subst (λ (m : Raster). Supports base m p x) mine.1 reach)

-- a hand may raise a neighbour of a pixel of which it knows a fact
pub may_raise : (base : Ground) (id : ℕ) (v : SeatView) (from : Fact) (q : Pixel) (n : ℕ) → Contains v.facts from
    → IsBeside base from.pixel q → n ≡ number (raised_fact base from q) → MayLift base id v q n
may_raise base id v from q n known beside is s h at =
    let held = (h.seats id v at).facts from known in
    let x : ℕ = min from.value (value_at (mask_of base) q) in
    let small : x < 65536 = omega (arith, held.small) in
    let bound = (h.pixels from.pixel held.on).not_later in
    let low : from.generation * 65536 + from.value ≤ slice_index s.words (place_of base from.pixel) = held.kept in
    subst (IsAllowed base h.generation h.marker) (sym (fact_is q from.generation x n small is)) (
      omega (arith, bound, low),
      λ e. reaches_by_step (domain base) (value_at (mask_of base)) (value_at h.marker) q from.pixel x beside.on
          (AreNeighbours-sym base.conn from.pixel q beside.beside) (omega arith)
          (reaches_lower (domain base) (value_at (mask_of base)) (value_at h.marker) from.pixel from.value x
          (omega arith) (held.reached e)),
    )
