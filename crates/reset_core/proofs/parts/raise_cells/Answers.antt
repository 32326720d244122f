-- The tactic that finds these, so that no other is tried first.
use Rattle.std.proofs.Common.{arith}
use Rattle.std.proofs.lemmas.Grind.{common_steps}
use Rattle.reset_core.proofs.parts.raise_cells.Goals as goal

pub raise_row-requires-clause-above : goal.raise_row-requires-clause-above
raise_row-requires-clause-above c = grind (arith, common_steps)
