use Rattle.std.proofs.Common.{◌*◌, ◌≤◌}
use Rattle.live_board.specs.Following.{GrowsOn, IsTrailOf}
use Rattle.live_board.specs.Seats.{IsHandOf, ground_of, hand_view}
use Rattle.live_board.proofs.hand.HandSeat.serve.Given as goal

abbrev pub invariant-loop-turn : goal.invariant-loop-turn
invariant-loop-turn l = IsHandOf l.board l.self × (l.rose ≤ 9 * l.turn)
    × IsTrailOf (ground_of l.board) (hand_view l.self) l.trail
    × GrowsOn (ground_of l.board) l.rose (hand_view l.fn.self) (hand_view l.self) l.fn.trail l.trail
