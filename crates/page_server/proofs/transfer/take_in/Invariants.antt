use Rattle.std.proofs.Common.{◌≡◌, ℕ, List, ◌++◌, ◌↔◌, IsTrue}
use Rattle.std.specs.Io.KnownBytes.{Consumes}
use Rattle.http_server.specs.{Connection.config_of, Connection.history, Exchange.Calls, History.Rests}
use Rattle.page_server.specs.Peer.{HasGrown}
use Rattle.page_server.proofs.transfer.take_in.Given as goal

abbrev pub invariant-loop : goal.invariant-loop
invariant-loop g l =
    let old = history l.fn.connection in
    let new = history l.connection in
    record {
      calls : Calls g.S.Service.answers l.fn.service l.service old.calls new.calls;
      read : (more : List ℕ) × Consumes (g.R.Read.remaining l.fn.reader) (g.R.Read.remaining l.reader) more
          × (new.received ≡ old.received ++ more);
      unsent : new.sent ≡ old.sent;
      came : IsTrue l.came ↔ HasGrown old.received new.received;
      rests : Rests (config_of l.connection) new;
      config : config_of l.connection ≡ config_of l.fn.connection;
    }
