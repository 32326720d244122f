use Rattle.std.proofs.Common.{Bool, true, ◌+◌, ◌<◌, length, set, take, sym, subst, arith, ◌∙◌}
use Rattle.std.specs.List.{AllZip}
use Rattle.page_server.specs.{declared.peer.Peer.Peer, Peer.Finishes, Peer.HasSent}
use Rattle.page_server.proofs.Turns.{AllZip-next, InSomePair-next, InSomePair-here, drop_next, Finishes-still, all_went}
use Rattle.page_server.proofs.peers.PeerList.finish.Goals.{then-finish, else-finish}
use Rattle.page_server.proofs.peers.PeerList.finish.Goals as goal

pub loop-peer-preserved : goal.loop-peer-preserved
loop-peer-preserved g c =
    let olds = c.args.self.now.list.items in
    let items = c.loop-peer.peer-items in
    let i = c.loop-peer.peer-index in
    let kept = c.args.kept in
    let now = c.args.now in
    let was = c.loop-peer.went in
    let x = c.peer-item.result in
    let q = c.finish.new.self in
    let so_far = c.loop-peer.invariant in
    let within : i < length items = omega arith in
    let P : Bool → Type 0 = λ b. AllZip (Finishes kept b now) (take (i + 1) olds) (take (i + 1) (set items i q)) in
    let S : Bool → Type 0 = λ b. Finishes kept b now x q in
    let Q : Peer g.row.C.Denot → Type 0 = λ y. Finishes kept c.finish.result now y q in
    let step : Finishes kept c.finish.result now x q = subst Q (sym c.peer-item.is) c.finish.ensures.part in
    let rest = drop_next olds items i x q within c.peer-item.is so_far.rest in
    elim c.if-finish.branch [
      | then-finish w ↦ record {
        finished = subst P (sym w.went-is)
            (AllZip-next olds items i x q within c.peer-item.is so_far.rest (Finishes kept true now)
            (all_went kept was now _ _ so_far.finished) (subst S w.if-finish.true step));
        went = λ is.
            InSomePair-here olds items i x q within c.peer-item.is so_far.rest HasSent
            (subst (λ (y : Peer g.row.C.Denot). HasSent y q) (sym c.peer-item.is)
            (c.finish.ensures.went w.if-finish.true));
        rest = rest;
      }
      | else-finish w ↦ record {
        finished = subst P (sym w.went-is)
            (AllZip-next olds items i x q within c.peer-item.is so_far.rest (Finishes kept was now)
            so_far.finished (Finishes-still kept was now x q (subst S w.if-finish.false step)));
        went = λ is.
            InSomePair-next olds items i x q within c.peer-item.is so_far.rest HasSent
            (so_far.went (sym w.went-is ∙ is));
        rest = rest;
      }
    ]
