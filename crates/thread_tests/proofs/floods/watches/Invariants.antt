use Rattle.live_board.specs.Seats.{IsPeekOf}
use Rattle.thread_tests.proofs.floods.watches.Given as goal

abbrev pub invariant-loop : goal.invariant-loop
invariant-loop l = IsPeekOf l.board l.peek
