use Rattle.std.proofs.Common.{◌≡◌, ℕ, List, ◌++◌, false, ◌↔◌, IsTrue}
use Rattle.std.specs.Io.KnownBytes.{Appends}
use Rattle.http_server.specs.Connection.{config_of, history}
use Rattle.page_server.specs.Peer.{HasGrown}
use Rattle.page_server.proofs.transfer.send_out.Given as goal

abbrev pub invariant-loop : goal.invariant-loop
invariant-loop g l =
    let old = history l.fn.connection in
    let new = history l.connection in
    record {
      written : (more : List ℕ) × Appends (g.W.Write.contents l.fn.writer) (g.W.Write.contents l.writer) more
          × (new.sent ≡ old.sent ++ more);
      calls : new.calls ≡ old.calls;
      received : new.received ≡ old.received;
      went : IsTrue l.went ↔ HasGrown old.sent new.sent;
      still : l.went ≡ false → new ≡ old;
      config : config_of l.connection ≡ config_of l.fn.connection;
    }
