use Rattle.live_board.specs.Seats.{IsPeekOf}
use Rattle.benchmarks.proofs.boards.peek_on.Given as goal

abbrev pub invariant-loop-number : goal.invariant-loop-number
invariant-loop-number _ l = IsPeekOf l.board l.peek
