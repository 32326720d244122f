use Rattle.live_board.specs.Seats.{IsPeekOf}
use Rattle.thread_tests.proofs.floods.looks_along.Given as goal

abbrev pub invariant-loop-x : goal.invariant-loop-x
invariant-loop-x l = IsPeekOf l.board l.peek
