use Rattle.std.proofs.Common.{Bool, true, false, List, ◌+◌, ◌<◌, ◌++◌, length, set, take, sym, subst, arith, refl, ◌∙◌}
use Rattle.http_server.specs.Exchange.{Call}
use Rattle.page_service.specs.{Kept.may_differ, Keeping.Keeping, Keeping.Answers}
use Rattle.page_server.specs.{declared.peer.Peer.Peer}
use Rattle.page_service.specs.{Keeper.keeping}
use Rattle.page_server.specs.{Pairs.InTurn, Peer.TakesIn, Peer.HasReceived}
use Rattle.page_server.proofs.Flags.{never_quiet}
use Rattle.page_server.proofs.Turns.{InTurn-map, InTurn-next, InSomePair-next, InSomePair-here, drop_next, TakesIn-more}
use Rattle.page_server.proofs.peers.PeerList.take_in.Goals.{then-take_in, else-take_in}
use Rattle.page_server.proofs.peers.PeerList.take_in.Goals as goal

pub loop-peer-preserved : goal.loop-peer-preserved
loop-peer-preserved g c =
    let olds = c.args.self.now.list.items in
    let items = c.loop-peer.peer-items in
    let i = c.loop-peer.peer-index in
    let now = c.args.now in
    let was = c.loop-peer.came in
    let P = Peer g.row.C.Denot in
    let K = Keeping g.row.S.Denot in
    let answers = Answers g.S.Service.answers in
    let version = g.S.Kept.version in
    let seen = g.T.StateStore.seen in
    let x = c.peer-item.result in
    let q = c.take_in.new.self in
    let so_far = c.loop-peer.invariant in
    let did = c.take_in.ensures.part in
    let within : i < length items = omega arith in
    let here = c.peer-item.is in
    let R : Bool → K → K → P → P → List Call → Type 0 = λ b before after.
    TakesIn (may_differ (version before.service) (version after.service)) b now in
    let first = keeping seen c.args.keeper.now in
    let mid = keeping seen c.loop-peer.keeper in
    let last = keeping seen c.take_in.new.keeper in
    let W : P → Type 0 = λ y. R c.take_in.result mid last y q did.0 in
    let part : R c.take_in.result mid last x q did.0 = subst W (sym here) did.1 in
    let calls = so_far.taken.0 ++ did.0 in
    let V : Bool → Type 0 = λ b. R b mid last x q did.0 in
    let Q : Bool → Type 0 = λ b.
    InTurn answers (R b) first (take (i + 1) olds) (take (i + 1) (set items i q)) calls last in
    let rest = drop_next olds items i x q within here so_far.rest in
    elim c.if-take_in.branch [
      | then-take_in w ↦ record {
        taken = (
          calls,
          subst Q (sym w.came-is)
              (InTurn-next olds items i x q within here so_far.rest answers (R true) first mid last so_far.taken.0 did.0
              (InTurn-map answers (R was) (R true)
              (λ a b y z mine. TakesIn-more _ was true now (never_quiet true was refl) y z mine)
              first mid _ _ so_far.taken.0 so_far.taken.1) did.2 (subst V w.if-take_in.true part)),
        );
        came = λ is.
            InSomePair-here olds items i x q within here so_far.rest HasReceived
            (subst (λ (y : P). HasReceived y q) (sym here) (c.take_in.ensures.came w.if-take_in.true));
        rest = rest;
      }
      | else-take_in w ↦ record {
        taken = (
          calls,
          subst Q (sym w.came-is)
              (InTurn-next olds items i x q within here so_far.rest answers (R was) first mid last so_far.taken.0
              did.0 so_far.taken.1 did.2
              (TakesIn-more _ false was now (λ none. refl) x q did.0 (subst V w.if-take_in.false part))),
        );
        came = λ is.
            InSomePair-next olds items i x q within here so_far.rest HasReceived (so_far.came (sym w.came-is ∙ is));
        rest = rest;
      }
    ]
