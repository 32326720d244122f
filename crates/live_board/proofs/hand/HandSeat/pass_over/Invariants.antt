use Rattle.std.proofs.Common.{◌*◌, ◌≤◌}
use Rattle.live_board.specs.{Floods.KnowsAsMuch, Following.IsTrailOf, Seats.IsHandOf, Seats.ground_of, Seats.hand_view}
use Rattle.live_board.proofs.hand.HandSeat.pass_over.Given as goal

abbrev pub invariant-loop-x : goal.invariant-loop-x
invariant-loop-x l = IsHandOf l.board l.self × (l.rose ≤ 3 * l.x)
    × IsTrailOf (ground_of l.board) (hand_view l.self) l.trail
    × KnowsAsMuch (hand_view l.fn.self) (hand_view l.self)
