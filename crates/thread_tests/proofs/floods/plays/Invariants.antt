use Rattle.thread_tests.specs.Company.{AreFlooding}
use Rattle.thread_tests.proofs.floods.plays.Given as goal

abbrev pub invariant-loop-stride : goal.invariant-loop-stride
invariant-loop-stride _ l = AreFlooding l.board l.mask l.flooders
