use Rattle.thread_tests.specs.Company.{AreOf}
use Rattle.thread_tests.proofs.boards.peeks_all.Given as goal

abbrev pub invariant-loop-x : goal.invariant-loop-x
invariant-loop-x l = AreOf l.board l.mask l.seats
