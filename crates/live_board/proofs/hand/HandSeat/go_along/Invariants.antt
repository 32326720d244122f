use Rattle.std.proofs.Common.{◌*◌, ◌≤◌}
use Rattle.live_board.specs.{Rounds.GoesOver, Rounds.in_row, Seats.IsHandOf, Seats.ground_of, Seats.hand_view}
use Rattle.live_board.proofs.hand.HandSeat.go_along.Given as goal

abbrev pub invariant-loop-column : goal.invariant-loop-column
invariant-loop-column l = IsHandOf l.board l.self × (l.rose ≤ 9 * l.column)
    × GoesOver (ground_of l.board) (in_row (ground_of l.board) l.y l.back) l.column l.rose (hand_view l.fn.self)
    (hand_view l.self)
