use Rattle.std.proofs.Common.{◌≡◌, take, drop, IsTrue}
use Rattle.std.specs.List.{AllZip}
use Rattle.page_server.specs.{Pairs.InSomePair, Peer.Finishes, Peer.HasSent}
use Rattle.page_server.proofs.peers.PeerList.finish.Given as goal

abbrev pub invariant-loop-peer : goal.invariant-loop-peer
invariant-loop-peer g l =
    let olds = l.fn.self.list.items in
    record {
      finished : AllZip (Finishes l.kept l.went l.now) (take l.peer-index olds) (take l.peer-index l.peer-items);
      went : IsTrue l.went → InSomePair HasSent (take l.peer-index olds) (take l.peer-index l.peer-items);
      rest : drop l.peer-index l.peer-items ≡ drop l.peer-index olds;
    }
