use Rattle.node_session.specs.Working.{StaysSilent, TookInEdits}
use Rattle.node_session.proofs.desk.Desk.take_in_all.Given as goal

abbrev pub invariant-loop-turn : goal.invariant-loop-turn
invariant-loop-turn l = StaysSilent l.fn.self l.self × TookInEdits l._turn l.fn.self.keeper l.self.keeper
