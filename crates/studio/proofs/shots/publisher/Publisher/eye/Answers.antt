use Rattle.std.proofs.Common.{arith}
use Rattle.studio.proofs.Keeping.{admits, forks, merges}
use Rattle.std.proofs.lemmas.Grind.{common_steps}
use Rattle.studio.proofs.shots.publisher.Publisher.eye.Goals as goal

pub reader-requires : goal.reader-requires
reader-requires c = admits

pub tell-requires : goal.tell-requires
tell-requires c = forks _ _

pub learn-requires-clause-rule : goal.learn-requires-clause-rule
learn-requires-clause-rule c = merges _ _ _ _

pub invariant_of-result : goal.invariant_of-result
invariant_of-result c = grind (arith, common_steps)
