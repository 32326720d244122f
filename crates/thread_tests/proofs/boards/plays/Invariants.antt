use Rattle.thread_tests.specs.Company.{AreOf}
use Rattle.thread_tests.proofs.boards.plays.Given as goal

abbrev pub invariant-loop-line : goal.invariant-loop-line
invariant-loop-line l = AreOf l.board l.mask l.seats
