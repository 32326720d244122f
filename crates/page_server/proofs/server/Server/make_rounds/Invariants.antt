use Rattle.std.proofs.Common.{◌≡◌}
use Rattle.page_server.specs.{Peers.most_of, Turning.AreMoving, Turning.scene}
use Rattle.page_server.proofs.server.Server.make_rounds.Given as goal

abbrev pub invariant-loop : goal.invariant-loop
invariant-loop g l =
    let seen = g.T.StateStore.seen in
    record {
      moving : AreMoving l.now l.counter (scene seen l.fn.self) (scene seen l.self);
      most : most_of l.self.peers ≡ most_of l.fn.self.peers;
      hall : l.self.hall ≡ l.fn.self.hall;
    }
