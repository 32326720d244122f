-- The tactic that finds these, so that no other is tried first.
use Rattle.std.proofs.Common.{arith}
use Rattle.std.proofs.lemmas.Grind.{common_steps}
use Rattle.reset_core.proofs.replica.starting.two_of.Goals as goal

pub returns : goal.returns
returns c = grind (arith, common_steps)
