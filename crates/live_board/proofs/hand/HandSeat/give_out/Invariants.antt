use Rattle.std.proofs.Common.{◌≤◌}
use Rattle.live_board.specs.Flooding.{AreFounded, HasGivenOut}
use Rattle.live_board.specs.Seats.{IsHandOf, ground_of, hand_view}
use Rattle.live_board.proofs.hand.HandSeat.give_out.Given as goal

abbrev pub invariant-loop-cell : goal.invariant-loop-cell
invariant-loop-cell l = IsHandOf l.board l.self × (l.rose ≤ l.cell)
    × AreFounded (ground_of l.board) (hand_view l.self) l.from l.to l.cells
    × HasGivenOut (ground_of l.board) l.from l.cell l.cells l.rose (hand_view l.fn.self) (hand_view l.self)
