use Rattle.std.proofs.Common.{◌≤◌}
use Rattle.live_board.specs.{Floods.IsDraftOf, Seats.IsHandOf}
use Rattle.live_board.proofs.hand.HandSeat.flood_strips.Given as goal

abbrev pub invariant-loop-turn : goal.invariant-loop-turn
invariant-loop-turn l = IsHandOf l.board l.self × IsDraftOf l.board l.draft × (l.floods ≤ l.turn) × (l.vain ≤ l.turn)
