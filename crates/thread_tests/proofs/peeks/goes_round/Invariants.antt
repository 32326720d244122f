use Rattle.live_board.specs.Seats.{IsHandOf}
use Rattle.thread_tests.proofs.peeks.goes_round.Given as goal

abbrev pub invariant-loop : goal.invariant-loop
invariant-loop l = IsHandOf l.board l.seat
