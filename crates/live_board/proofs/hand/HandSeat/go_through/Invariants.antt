use Rattle.std.proofs.Common.{◌*◌, ◌≤◌}
use Rattle.live_board.specs.{Rounds.GoesThrough, Rounds.nth, Seats.IsHandOf, Seats.ground_of, Seats.hand_view}
use Rattle.live_board.proofs.hand.HandSeat.go_through.Given as goal

abbrev pub invariant-loop-row : goal.invariant-loop-row
invariant-loop-row l = IsHandOf l.board l.self × (l.rose ≤ 147456 * l.row)
    × GoesThrough (ground_of l.board) (nth l.first l.end l.back) l.back l.row l.rose (hand_view l.fn.self)
    (hand_view l.self)
