-- The tactic that finds these, so that no other is tried first.
use Rattle.std.proofs.Common.{arith}
use Rattle.std.proofs.lemmas.Grind.{common_steps}
use Rattle.reset_core.proofs.replica.Core.answer_to.Goals as goal

pub rect-requires : goal.rect-requires
rect-requires c = grind (arith, common_steps)
