-- The tactic that finds these, so that no other is tried first.
use Rattle.std.proofs.Common.{arith}
use Rattle.std.proofs.lemmas.Grind.{common_steps}
use Rattle.tiled_core.proofs.replica.TiledCore.take_back.Goals as goal

pub returns-in-Stale-clause-given : goal.returns-in-Stale-clause-given
returns-in-Stale-clause-given c = grind (arith, common_steps)

pub join-requires-clause-joinable : goal.join-requires-clause-joinable
join-requires-clause-joinable c = grind (arith, common_steps)
