use Rattle.thread_tests.specs.Company.{IsShareOf}
use Rattle.thread_tests.proofs.floods.grow_share.Given as goal

abbrev pub invariant-loop-y : goal.invariant-loop-y
invariant-loop-y l = IsShareOf l.board l.share
