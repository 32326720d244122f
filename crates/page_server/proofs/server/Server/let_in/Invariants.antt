use Rattle.page_server.specs.Turning.{LetsIn}
use Rattle.page_server.proofs.server.Server.let_in.Given as goal

abbrev pub invariant-loop : goal.invariant-loop
invariant-loop g l = LetsIn l.now l.fn.self l.self
