use Rattle.std.proofs.Common.{length}
use Rattle.core_rules.specs.Runs.{tickets_out}
use Rattle.reset_core.specs.Settling.{AreAbandoned}
use Rattle.tiled_core.proofs.replica.TiledCore.abandon_all.Given as goal

abbrev pub invariant-loop-abandons : goal.invariant-loop-abandons
invariant-loop-abandons l = AreAbandoned l.fn.self l.self l.abandons

abbrev pub decreases-loop-abandons : goal.decreases-loop-abandons
decreases-loop-abandons l = length (tickets_out 0 l.self.tiles)
