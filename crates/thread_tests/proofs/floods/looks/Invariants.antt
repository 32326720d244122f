use Rattle.live_board.specs.Seats.{IsPeekOf}
use Rattle.thread_tests.proofs.floods.looks.Given as goal

abbrev pub invariant-loop-y : goal.invariant-loop-y
invariant-loop-y l = IsPeekOf l.board l.peek
