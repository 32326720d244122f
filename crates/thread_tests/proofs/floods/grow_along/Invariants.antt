use Rattle.thread_tests.specs.Company.{IsShareOf}
use Rattle.thread_tests.proofs.floods.grow_along.Given as goal

abbrev pub invariant-loop-x : goal.invariant-loop-x
invariant-loop-x l = IsShareOf l.board l.share
