use Rattle.std.proofs.Common.{take}
use Rattle.live_board.specs.Following.{IsGrowing, IsTrailOf}
use Rattle.live_board.specs.Seats.{IsHandOf, ground_of, hand_view}
use Rattle.live_board.proofs.hand.HandSeat.read_all.Given as goal

abbrev pub invariant-loop-place : goal.invariant-loop-place
invariant-loop-place l = IsHandOf l.board l.self × IsTrailOf (ground_of l.board) (hand_view l.self) l.trail
    × IsGrowing (ground_of l.board) (take l.place l.pixels) 0 (hand_view l.fn.self) (hand_view l.self) l.trail
