use Rattle.std.proofs.Common.{◌*◌, ◌≤◌}
use Rattle.live_board.specs.Flooding.{HasPassedOn, IsRowKnown}
use Rattle.live_board.specs.Seats.{IsHandOf, ground_of, hand_view}
use Rattle.live_board.proofs.hand.HandSeat.pass_on.Given as goal

abbrev pub invariant-loop-x : goal.invariant-loop-x
invariant-loop-x l = IsHandOf l.board l.self × (l.rose ≤ 9 * l.x)
    × IsRowKnown (ground_of l.board) l.y l.image (hand_view l.self)
    × HasPassedOn (ground_of l.board) l.y l.x l.image l.rose (hand_view l.fn.self) (hand_view l.self)
