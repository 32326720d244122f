use Rattle.std.proofs.Common.{◌≡◌, ◌∙◌, true, false, refl, List, [], sym, ap, subst, rules}
use Rattle.http_server.specs.Exchange.{Call, Chain}
use Rattle.page_service.specs.{declared.keeper.StateKeeper.StateKeeper, Kept.may_differ}
use Rattle.page_server.specs.{declared.peer.Peer.Peer}
use Rattle.page_service.specs.{Keeping.Answers, Keeper.keeping}
use Rattle.page_server.specs.{Peer.TakesIn, Peer.after_transfer, Peer.begun_after}
use Rattle.page_server.proofs.Taking.{TakesIn-closed, taken_after}
use Rattle.page_server.proofs.peer.Peer.take_in.Goals as goal

pub returns-then-not-self-clause-part : goal.returns-then-not-self-clause-part
returns-then-not-self-clause-part g c =
    let closed : c.args.self.now.is_open ≡ false = search rules in
    ([], TakesIn-closed _ false c.args.now c.args.self.now c.linger.new.self closed c.linger.ensures, refl)

pub returns-clause-part : goal.returns-clause-part
returns-clause-part g c =
    let seen = g.T.StateStore.seen in
    let answers = g.S.Service.answers in
    let version = g.S.Kept.version in
    let did = c.take_in-came.ensures in
    let old = c.args.self.now in
    let was_open : old.is_open ≡ true = search rules in
    let after = c.take_in-came.new.service in
    let first = c.version-before.ensures
    ∙ ap (λ (k : StateKeeper g.row.S.Denot g.row.T.Denot). version k.joiner.service) c.forget.ensures in
    let differs : c.may_differ-self.result
    ≡ may_differ (version c.args.keeper.now.joiner.service) (version after.joiner.service)
    = c.may_differ-self.ensures ∙ ap (λ v. may_differ v c.version.result) first
    ∙ ap (λ v. may_differ (version c.args.keeper.now.joiner.service) v) c.version.ensures in
    let mid : Peer g.row.C.Denot
    = record {
      stream = c.take_in-came.new.reader;
      connection = c.take_in-came.new.connection;
      moved = old.moved;
      begun = old.begun;
      has_changed = c.may_differ-self.result;
      is_open = old.is_open;
      ended = old.ended;
    } in
    let called = c.has_answered.result in
    let came = c.note-came.result in
    let noted : Peer g.row.C.Denot = after_transfer c.take_in-came.result c.args.now mid in
    let with_request : Peer g.row.C.Denot → Peer g.row.C.Denot = λ p.
    record p { begun = begun_after c.args.now called came p.begun } in
    let is : c.note_request.new.self ≡ with_request noted
    = c.note_request.ensures ∙ ap with_request {x = c.note-came.new.self} {y = noted} c.note-came.ensures.noted in
    let P : Peer g.row.C.Denot → Type 0 = λ p.
    (mine : List Call)
    × TakesIn (may_differ (version c.args.keeper.now.joiner.service) (version after.joiner.service)) came c.args.now old
    p mine
    × Chain (Answers answers) (keeping seen c.args.keeper.now) mine (keeping seen after) in
    subst P {x = with_request noted} {y = c.note_request.new.self} (sym {b = with_request noted} is)
    (taken_after answers seen c.args.now c.args.keeper.now c.forget.new.self after old mid c.forget.ensures
    did.calls (did.read.0, did.read.2) did.unsent did.config was_open did.rests
    (may_differ (version c.args.keeper.now.joiner.service) (version after.joiner.service)) called
    c.has_answered.ensures differs came c.take_in-came.result c.note-came.ensures.moved refl refl refl did.came)
