-- The tactic that finds these, so that no other is tried first.
use Rattle.std.proofs.Common.{arith}
use Rattle.std.proofs.lemmas.Grind.{common_steps}
use Rattle.tile_work.proofs.renewing.raise.raise_clipped.Goals as goal

pub returns-else-span-height-clause-raised : goal.returns-else-span-height-clause-raised
returns-else-span-height-clause-raised c = grind (arith, common_steps)

pub returns-then-span-height-clause-raised : goal.returns-then-span-height-clause-raised
returns-then-span-height-clause-raised c = grind (arith, common_steps)
