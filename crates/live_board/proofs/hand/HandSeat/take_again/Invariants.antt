use Rattle.std.proofs.Common.{◌*◌}
use Rattle.live_board.specs.Flooding.{AreFounded, AreLow}
use Rattle.live_board.specs.{Seats.IsHandOf, Seats.ground_of, Seats.hand_view, Words.mask_of}
use Rattle.live_board.proofs.hand.HandSeat.take_again.Given as goal

abbrev pub invariant-loop-cell : goal.invariant-loop-cell
invariant-loop-cell l = IsHandOf l.board l.self × AreLow (ground_of l.board) l.cells
    × AreFounded (ground_of l.board) (hand_view l.self) ((mask_of (ground_of l.board)).width * l.fn.band.first)
    ((mask_of (ground_of l.board)).width * l.fn.band.end) l.cells
