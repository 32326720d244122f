use Rattle.std.proofs.Common.{ℕ, List, subst}
use Rattle.view_session.specs.Kept.{KeptIsRefused}
use Rattle.seedpaint_c.specs.Buffers.{AreHandedOut, IsShortage}
use Rattle.seedpaint_c.proofs.Viewed.{is_ended_by, shortage_is_not_refused}
use Rattle.seedpaint_c.proofs.viewing.seedpaint_view_kept.Goals as goal

pub returns-in-Ok-clause-shown : goal.returns-in-Ok-clause-shown
returns-in-Ok-clause-shown c =
    let out = c.args.out.now in
    let state = c.args.state.now in
    let put = c.hand_out_both in
    let is_put = λ (text new : List ℕ). AreHandedOut out put.new.out put.new.lengths.out text state put.new.state
    put.new.lengths.state new put.result in
    λ _. record {
      conn = c.in-Some.connectivity;
      named = c.in-Some.ensures;
      holds = (
        c.in-Ok.sink.written,
        c.in-Ok.new.items,
        c.in-Ok.ensures.shown,
        subst (λ (text : List ℕ). is_put text c.in-Ok.new.items) c.written.ensures
            (subst (λ (new : List ℕ). is_put c.written.result.now new) c.deref.ensures.value put.ensures.put),
      );
    }

pub returns-in-Err-clause-ended : goal.returns-in-Err-clause-ended
returns-in-Err-clause-ended c =
    let conn = c.in-Some.connectivity in
    let e = c.in-Err.error in
    λ _. record {
      conn = conn;
      named = c.in-Some.ensures;
      holds = is_ended_by (KeptIsRefused conn c.args.old.now c.args.input.now) IsShortage _ _ _ _ e
          (shortage_is_not_refused e) c.in-Err.ensures.ended c.tell.ensures.refused c.tell.ensures.memory
          c.tell.ensures.line;
    }
