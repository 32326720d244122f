-- The tactic that finds these, so that no other is tried first.
use Rattle.std.proofs.Common.{arith}
use Rattle.std.proofs.lemmas.Grind.{common_steps}
use Rattle.tiled_core.proofs.replica.TiledCore.knows.Goals as goal

pub has_mask-requires : goal.has_mask-requires
has_mask-requires c = grind (arith, common_steps)
