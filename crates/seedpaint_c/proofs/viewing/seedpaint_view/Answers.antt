use Rattle.std.proofs.Common.{ℕ, List, subst}
use Rattle.stroke_lattice.specs.State.{nothing}
use Rattle.view_session.specs.View.{InputIsRefused}
use Rattle.seedpaint_c.specs.Buffers.{IsHandedOut, IsShortage}
use Rattle.seedpaint_c.proofs.Viewed.{is_ended_by, shortage_is_not_refused}
use Rattle.seedpaint_c.proofs.viewing.seedpaint_view.Goals as goal

pub returns-in-Ok-clause-shown : goal.returns-in-Ok-clause-shown
returns-in-Ok-clause-shown c =
    let view = c.in-Ok.ensures.shown in
    λ _. record {
      conn = c.in-Some.connectivity;
      named = c.in-Some.ensures;
      holds = (
        view.0,
        c.in-Ok.sink.written,
        view.1,
        subst (λ (text : List ℕ). IsHandedOut c.args.out.now c.hand_out.new.buffer c.hand_out.new.count text
            c.hand_out.result) c.written.ensures c.hand_out.ensures,
      );
    }

pub returns-in-Err-clause-ended : goal.returns-in-Err-clause-ended
returns-in-Err-clause-ended c =
    let e = c.in-Err.error in
    λ _. is_ended_by (InputIsRefused nothing c.args.input.now) IsShortage _ _ _ _ e
    (shortage_is_not_refused e) c.in-Err.ensures.ended c.tell.ensures.refused c.tell.ensures.memory c.tell.ensures.line
