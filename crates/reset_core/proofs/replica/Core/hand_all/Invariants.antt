use Rattle.reset_core.specs.Settling.{waiting_count, AreHanded}
use Rattle.reset_core.proofs.replica.Core.hand_all.Given as goal

abbrev pub invariant-loop : goal.invariant-loop
invariant-loop l = AreHanded l.fn.self l.self

abbrev pub decreases-loop : goal.decreases-loop
decreases-loop l = waiting_count l.self.tiles
