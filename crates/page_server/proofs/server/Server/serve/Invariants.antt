use Rattle.page_server.specs.Turning.{AreTurns}
use Rattle.page_server.proofs.server.Server.serve.Given as goal

abbrev pub invariant-loop : goal.invariant-loop
invariant-loop g l = AreTurns g.T.StateStore.seen l.counter l.fn.self l.self
