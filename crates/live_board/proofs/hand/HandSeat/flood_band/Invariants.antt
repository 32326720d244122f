use Rattle.live_board.specs.{Bands.IsDrawn, Seats.IsHandOf, Seats.ground_of, Seats.hand_view}
use Rattle.live_board.proofs.hand.HandSeat.flood_band.Given as goal

abbrev pub invariant-loop : goal.invariant-loop
invariant-loop l = IsHandOf l.board l.self
    × IsDrawn (ground_of l.board) l.fn.band (hand_view l.self) l.draft.image
