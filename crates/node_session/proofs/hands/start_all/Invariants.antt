use Rattle.std.proofs.Common.{length}
use Rattle.node_session.proofs.hands.start_all.Given as goal

abbrev pub decreases-loop-hand : goal.decreases-loop-hand
decreases-loop-hand g l = length l.hands.items
