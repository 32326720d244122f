use Rattle.live_board.specs.Flooding.{AreLow, HasTakenIn}
use Rattle.live_board.specs.Seats.{IsHandOf, ground_of, hand_view}
use Rattle.live_board.proofs.hand.HandSeat.take_in.Given as goal

abbrev pub invariant-loop-cell : goal.invariant-loop-cell
invariant-loop-cell l = IsHandOf l.board l.self × AreLow (ground_of l.board) l.cells
    × HasTakenIn (ground_of l.board) l.from l.cell l.cells (hand_view l.fn.self) (hand_view l.self)
