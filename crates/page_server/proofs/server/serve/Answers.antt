use Rattle.page_server.proofs.server.serve.Goals as goal

pub returns-in-Ok-clause-served : goal.returns-in-Ok-clause-served
returns-in-Ok-clause-served g c = record {
  first = c.in_ok-server.server;
  last = c.serve.new.self;
  begins = c.in_ok-server.ensures;
  turns = c.in-Ok.ensures;
}
