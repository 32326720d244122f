use Rattle.node_session.specs.Working.{WorksOn}
use Rattle.node_session.proofs.desk.Desk.ticks.Given as goal

abbrev pub invariant-loop-tick : goal.invariant-loop-tick
invariant-loop-tick g l = WorksOn l._tick l.fn.self l.self (g.L.Link.seen l.fn.link) (g.L.Link.seen l.link)
