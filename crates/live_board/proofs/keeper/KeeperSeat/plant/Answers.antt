use Rattle.std.proofs.Common.{◌*◌, ◌+◌, ◌<◌, ap, ap₂, subst, sym, ℕ, ◌∙◌, ◌≡◌}
use Rattle.grid_core.proofs.Cells.{below_at_each_pixel}
use Rattle.grid_core.specs.{Raster.IsBelow, Raster.IsFilled, Raster.Raster, Raster.value_at, declared.pixel.Pixel.Pixel}
use Rattle.live_board.proofs.{Allowed.may_plant, Planted.still_known, Telling.adds_number}
use Rattle.live_board.specs.Seats.{Adds, ground_of, keeper_view, planted_fact}
use Rattle.live_board.specs.{Words.mask_of, declared.rule.Ground.Ground, declared.rule.SeatView.SeatView}
use Rattle.live_board.proofs.keeper.KeeperSeat.plant.Goals.{After-lift}
use Rattle.live_board.proofs.keeper.KeeperSeat.plant.Goals as goal

pub lift-requires-clause-asked : goal.lift-requires-clause-asked
lift-requires-clause-asked c =
    let v : SeatView = keeper_view c.args.self.now in
    let p : Pixel = c.args.pixel in
    let base : Ground = ground_of c.args.board.now in
    let marker : Raster = c.args.self.now.marker in
    let marked : v.marker ≡ marker = c.args.self.now.marked in
    let below : IsBelow v.marker (mask_of base) = c.requires.keeper.below in
    let filled : IsFilled v.marker = subst IsFilled (sym marked) c.width.ensures.sized.filled in
    let value : c.from.result ≡ value_at v.marker p =
    c.from.ensures ∙ c.get-value.ensures ∙ ap (λ (m : Raster). value_at m p) (sym marked) in
    let small : c.get-value.result < 65536 = c.get-value.type_inv in
    may_plant base c.args.self.now.seat.id v p _ c.args.self.now.first c.requires.pixel
    (below_at_each_pixel v.marker (mask_of base) filled below p (
      subst (λ (w : ℕ). p.x < w) (sym below.width) c.requires.pixel.0,
      subst (λ (h : ℕ). p.y < h) (sym below.height) c.requires.pixel.1,
    ))
    (subst (λ (k : ℕ). k < 65536) (sym c.from.ensures ∙ value) small)
    (ap₂ (λ (g k : ℕ). g * 65536 + k) (sym c.args.self.now.same) value)

-- what the step adds
adds : (c : After-lift) → Adds (ground_of c.args.board.now) (planted_fact (keeper_view c.args.self.now) c.args.pixel)
    (keeper_view c.args.self.now) c.lift.new.seat.me.0
adds c =
    let v : SeatView = keeper_view c.args.self.now in
    let p : Pixel = c.args.pixel in
    let value : c.from.result ≡ value_at v.marker p =
    c.from.ensures ∙ c.get-value.ensures ∙ ap (λ (m : Raster). value_at m p) (sym c.args.self.now.marked) in
    let small : c.get-value.result < 65536 = c.get-value.type_inv in
    adds_number (ground_of c.args.board.now) v c.lift.new.seat.me.0 (c.args.self.now.generation * 65536 + c.from.result)
    c.lift.result (planted_fact v p) c.lift.ensures.view
    (ap₂ (λ (g k : ℕ). g * 65536 + k) (sym c.args.self.now.same) value)
    (subst (λ (k : ℕ). k < 65536) (sym c.from.ensures ∙ value) small)

pub invariant_of-self-clause-known : goal.invariant_of-self-clause-known
invariant_of-self-clause-known c =
    let v : SeatView = keeper_view c.args.self.now in
    still_known (ground_of c.args.board.now) c.args.self.now.is_planted (planted_fact v c.args.pixel) v
    c.lift.new.seat.me.0 (adds (goal.at.invariant_of-self-clause-known c).After-lift) c.args.self.now.known

pub returns-clause-planted : goal.returns-clause-planted
returns-clause-planted c = adds (goal.at.returns-clause-planted c).After-lift
