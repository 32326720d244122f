use Rattle.std.proofs.Common.{◌*◌, ◌+◌, ap₂, arith, sym, ℕ}
use Rattle.live_board.proofs.Flooding.{cell_is, cell_on, lifted_is, may_lift}
use Rattle.live_board.specs.{Rounds.pixel_after, Seats.ground_of, Seats.hand_view}
use Rattle.live_board.proofs.hand.HandSeat.lift_to.Goals as goal

pub lift_cell-requires-clause-cell : goal.lift_cell-requires-clause-cell
lift_cell-requires-clause-cell c = cell_is (ground_of c.args.board.now) c.args.cell

pub lift_cell-requires-clause-pixel : goal.lift_cell-requires-clause-pixel
lift_cell-requires-clause-pixel c =
    cell_on (ground_of c.args.board.now) c.args.cell c.width.ensures.sized.sized.filled c.requires.cell

pub lift_cell-requires-clause-asked : goal.lift_cell-requires-clause-asked
lift_cell-requires-clause-asked c =
    may_lift (ground_of c.args.board.now) c.args.self.now.seat.id (hand_view c.args.self.now)
    (pixel_after (ground_of c.args.board.now) c.args.cell) c.args.value _ (omega arith) c.requires.founded
    (ap₂ (λ (g k : ℕ). g * 65536 + k) (sym c.args.self.now.same) c.from.ensures)

pub returns-clause-lifted : goal.returns-clause-lifted
returns-clause-lifted c =
    lifted_is (ground_of c.args.board.now) (hand_view c.args.self.now) c.lift_cell.new.seat.me.0
    (pixel_after (ground_of c.args.board.now) c.args.cell) c.args.value
    (c.args.self.now.generation * 65536 + c.from.result) c.lift_cell.result c.lift_cell.ensures.view
    (ap₂ (λ (g k : ℕ). g * 65536 + k) (sym c.args.self.now.same) c.from.ensures) (omega arith)
