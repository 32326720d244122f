use Rattle.std.proofs.Common.{◌≤◌}
use Rattle.node_session.specs.Working.{AreTurns, StaysSilent}
use Rattle.node_session.proofs.desk.Desk.take_turns.Given as goal

abbrev pub invariant-loop-turn : goal.invariant-loop-turn
invariant-loop-turn g l = StaysSilent l.fn.self l.self × AreTurns l._turn l.fn.self.keeper l.self.keeper × (l.waits ≤ 256)
