use Rattle.std.proofs.Common.{sym, subst, ◌∙◌, ◌↔◌, IsTrue}
use Rattle.http_server.specs.Connection.{history}
use Rattle.http_server.proofs.StreamLemmas.{Calls-then}
use Rattle.page_server.specs.Peer.{HasGrown}
use Rattle.page_server.proofs.Transfers.{read_on, grown_at_last, grown_as_before, not_moved}
use Rattle.page_server.proofs.transfer.take_in.Goals.{in-Moved, in-Interrupted}
use Rattle.page_server.proofs.transfer.take_in.Goals as goal

pub returns-in_err-read_once-clause-calls : goal.returns-in_err-read_once-clause-calls
returns-in_err-read_once-clause-calls g c =
    Calls-then g.S.Service.answers _ _ _ _ _ _ c.loop.invariant.calls c.read_once.ensures.calls

pub returns-in_err-read_once-clause-read : goal.returns-in_err-read_once-clause-read
returns-in_err-read_once-clause-read g c = read_on _ _ _ _ _ _ c.loop.invariant.read c.read_once.ensures.read

pub returns-in-Over-clause-calls : goal.returns-in-Over-clause-calls
returns-in-Over-clause-calls g c =
    Calls-then g.S.Service.answers _ _ _ _ _ _ c.loop.invariant.calls c.read_once.ensures.calls

pub returns-in-Over-clause-read : goal.returns-in-Over-clause-read
returns-in-Over-clause-read g c = read_on _ _ _ _ _ _ c.loop.invariant.read c.read_once.ensures.read

pub loop-preserved : goal.loop-preserved
loop-preserved g c =
    let so_far = c.loop.invariant in
    let did = c.read_once.ensures in
    let a = (history c.args.connection.now).received in
    let b = (history c.loop.connection).received in
    let d = (history c.read_once.new.connection).received in
    record {
      calls = Calls-then g.S.Service.answers _ _ _ _ _ _ so_far.calls did.calls;
      read = read_on _ _ _ _ _ _ so_far.read did.read;
      unsent = did.unsent ∙ so_far.unsent;
      came = elim c.match-branch-2.branch [
        | in-Moved w ↦
            let grew : HasGrown b d = c.in_ok-read_once.ensures.moved.0 w.in-Moved.is in
            (λ is. grown_at_last a b d (so_far.read.0, so_far.read.2) grew, λ grown. w.came-is)
        | in-Interrupted w ↦
            subst (λ b. IsTrue b ↔ HasGrown a d) (sym w.came-is)
            (grown_as_before a b d c.loop.came (did.read.0, did.read.2)
            (λ grew. not_moved _ w.in-Interrupted.is (c.in_ok-read_once.ensures.moved.1 grew)) so_far.came)
      ];
      rests = did.rests so_far.rests;
      config = did.config ∙ so_far.config;
    }
