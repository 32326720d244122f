use Rattle.std.proofs.Common.{◌≡◌, List, take, drop, IsTrue}
use Rattle.http_server.specs.Exchange.{Call}
use Rattle.page_service.specs.{Kept.may_differ, Keeping.Answers, Keeper.keeping}
use Rattle.page_server.specs.{Pairs.InTurn, Pairs.InSomePair}
use Rattle.page_server.specs.{Peer.TakesIn, Peer.HasReceived}
use Rattle.page_server.proofs.peers.PeerList.take_in.Given as goal

abbrev pub invariant-loop-peer : goal.invariant-loop-peer
invariant-loop-peer g l =
    let olds = l.fn.self.list.items in
    let seen = g.T.StateStore.seen in
    let version = g.S.Kept.version in
    record {
      taken : (calls : List Call) × InTurn (Answers g.S.Service.answers)
          (λ before after. TakesIn (may_differ (version before.service) (version after.service)) l.came l.now)
          (keeping seen l.fn.keeper) (take l.peer-index olds) (take l.peer-index l.peer-items) calls
          (keeping seen l.keeper);
      came : IsTrue l.came → InSomePair HasReceived (take l.peer-index olds) (take l.peer-index l.peer-items);
      rest : drop l.peer-index l.peer-items ≡ drop l.peer-index olds;
    }
