use Rattle.std.proofs.Common.{◌*◌, ◌+◌, ◌<◌, ap₂, arith, subst, sym, ℕ, ◌∙◌, ◌≡◌}
use Rattle.grid_core.proofs.Cells.{below_at_each_pixel}
use Rattle.grid_core.specs.{Raster.IsBelow, Raster.IsFilled, Raster.value_at, declared.pixel.Pixel.Pixel}
use Rattle.live_board.proofs.{Allowed.may_plant, Flooding.cell_is, Planted.cell_by_step, Planted.cell_lies}
use Rattle.live_board.proofs.{Planted.still_known, Telling.adds_number}
use Rattle.live_board.specs.{Rounds.pixel_after, Seats.Adds, Seats.ground_of, Seats.keeper_view, Seats.planted_fact}
use Rattle.live_board.specs.{Words.IsOn, Words.mask_of, declared.rule.Ground.Ground, declared.rule.SeatView.SeatView}
use Rattle.live_board.proofs.keeper.KeeperSeat.plant_cell.Goals.{After-lift_cell}
use Rattle.live_board.proofs.keeper.KeeperSeat.plant_cell.Goals as goal

pub lift_cell-requires-clause-cell : goal.lift_cell-requires-clause-cell
lift_cell-requires-clause-cell c = cell_is (ground_of c.args.board.now) c.args.cell

pub lift_cell-requires-clause-pixel : goal.lift_cell-requires-clause-pixel
lift_cell-requires-clause-pixel c = cell_lies (ground_of c.args.board.now) c.args.cell c.requires.cell

pub lift_cell-requires-clause-asked : goal.lift_cell-requires-clause-asked
lift_cell-requires-clause-asked c =
    let v : SeatView = keeper_view c.args.self.now in
    let base : Ground = ground_of c.args.board.now in
    let p : Pixel = pixel_after base c.args.cell in
    let marked : v.marker ≡ c.args.self.now.marker = c.args.self.now.marked in
    let below : IsBelow v.marker (mask_of base) = c.requires.keeper.below in
    let filled : IsFilled v.marker = subst IsFilled (sym marked) c.width.ensures.sized.filled in
    let on : IsOn base p = cell_lies base c.args.cell c.requires.cell in
    let value : c.from.result ≡ value_at v.marker p = c.from.ensures ∙ c.value.ensures in
    let small : c.from.result < 65536 = omega (arith, c.from.ensures, c.value.type_inv) in
    may_plant base c.args.self.now.seat.id v p _ c.args.self.now.first on
    (below_at_each_pixel v.marker (mask_of base) filled below p (
      subst (λ (w : ℕ). p.x < w) (sym below.width) on.0,
      subst (λ (h : ℕ). p.y < h) (sym below.height) on.1,
    ))
    (subst (λ (k : ℕ). k < 65536) value small)
    (ap₂ (λ (g k : ℕ). g * 65536 + k) (sym c.args.self.now.same) value)

-- what the step adds
adds : (c : After-lift_cell) → Adds (ground_of c.args.board.now)
    (planted_fact (keeper_view c.args.self.now) (pixel_after (ground_of c.args.board.now) c.args.cell))
    (keeper_view c.args.self.now) c.lift_cell.new.seat.me.0
adds c =
    let v : SeatView = keeper_view c.args.self.now in
    let base : Ground = ground_of c.args.board.now in
    let p : Pixel = pixel_after base c.args.cell in
    let value : c.from.result ≡ value_at v.marker p = c.from.ensures ∙ c.value.ensures in
    let small : c.from.result < 65536 = omega (arith, c.from.ensures, c.value.type_inv) in
    adds_number base v c.lift_cell.new.seat.me.0 (c.args.self.now.generation * 65536 + c.from.result)
    c.lift_cell.result (planted_fact v p) c.lift_cell.ensures.view
    (ap₂ (λ (g k : ℕ). g * 65536 + k) (sym c.args.self.now.same) value) (subst (λ (k : ℕ). k < 65536) value small)

pub invariant_of-self-clause-known : goal.invariant_of-self-clause-known
invariant_of-self-clause-known c =
    let base : Ground = ground_of c.args.board.now in
    let v : SeatView = keeper_view c.args.self.now in
    still_known base c.args.self.now.is_planted (planted_fact v (pixel_after base c.args.cell)) v
    c.lift_cell.new.seat.me.0 (adds (goal.at.invariant_of-self-clause-known c).After-lift_cell) c.args.self.now.known

pub returns-clause-planted : goal.returns-clause-planted
returns-clause-planted c =
    cell_by_step (ground_of c.args.board.now) c.args.cell (keeper_view c.args.self.now) c.lift_cell.new.seat.me.0
    (adds (goal.at.returns-clause-planted c).After-lift_cell)
