use Rattle.std.proofs.Common.{sym, subst, ◌∙◌, ◌↔◌, IsTrue}
use Rattle.http_server.specs.Connection.{history}
use Rattle.page_server.specs.Peer.{HasGrown}
use Rattle.page_server.proofs.Transfers.{written_on, grown_at_last, grown_as_before, not_down, not_moved}
use Rattle.page_server.proofs.transfer.send_out.Goals.{in-Moved, in-Interrupted}
use Rattle.page_server.proofs.transfer.send_out.Goals as goal

pub returns-in_err-write_once-clause-written : goal.returns-in_err-write_once-clause-written
returns-in_err-write_once-clause-written g c =
    written_on _ _ _ _ _ _ c.loop.invariant.written c.write_once.ensures.written

pub returns-in-Over-clause-written : goal.returns-in-Over-clause-written
returns-in-Over-clause-written g c =
    written_on _ _ _ _ _ _ c.loop.invariant.written c.write_once.ensures.written

pub loop-preserved : goal.loop-preserved
loop-preserved g c =
    let so_far = c.loop.invariant in
    let did = c.write_once.ensures in
    let a = (history c.args.connection.now).sent in
    let b = (history c.loop.connection).sent in
    let d = (history c.write_once.new.connection).sent in
    record {
      written = written_on _ _ _ _ _ _ so_far.written did.written;
      calls = did.calls ∙ so_far.calls;
      received = did.received ∙ so_far.received;
      went = elim c.match-branch-2.branch [
        | in-Moved w ↦
            let grew : HasGrown b d = c.in_ok-write_once.ensures.moved.0 w.in-Moved.is in
            (λ is. grown_at_last a b d (so_far.written.0, so_far.written.2) grew, λ grown. w.went-is)
        | in-Interrupted w ↦
            subst (λ b. IsTrue b ↔ HasGrown a d) (sym w.went-is)
            (grown_as_before a b d c.loop.went (did.written.0, did.written.2)
            (λ grew. not_moved _ w.in-Interrupted.is (c.in_ok-write_once.ensures.moved.1 grew)) so_far.went)
      ];
      still = λ none. elim c.match-branch-2.branch [
        | in-Moved w ↦ absurd (not_down _ w.went-is none)
        | in-Interrupted w ↦
            c.in_ok-write_once.ensures.still (not_moved _ w.in-Interrupted.is)
            ∙ so_far.still (sym w.went-is ∙ none)
      ];
      config = did.config ∙ so_far.config;
    }
