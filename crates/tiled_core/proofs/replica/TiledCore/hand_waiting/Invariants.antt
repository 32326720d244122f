use Rattle.tiled_core.proofs.HandedOver.{AreHandedDownTo}
use Rattle.tiled_core.proofs.replica.TiledCore.hand_waiting.Given as goal

abbrev pub invariant-loop-left : goal.invariant-loop-left
invariant-loop-left l = AreHandedDownTo l.tile l.rect l.fn.self l.left l.self

abbrev pub decreases-loop-left : goal.decreases-loop-left
decreases-loop-left l = l.left
