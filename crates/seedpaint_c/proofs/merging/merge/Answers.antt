use Rattle.std.proofs.Common.{◌++◌, List, inl, inr, subst}
use Rattle.std.proofs.lemmas.Result.{err_from_is_err_and}
use Rattle.stroke_lattice.specs.State.{State}
use Rattle.spd_codec.specs.declared.frame.Frame.{Frame}
use Rattle.stroke_lattice.specs.Pieces.{pieces_of}
use Rattle.view_session.proofs.KeptViews.{spells_pieces}
use Rattle.view_session.specs.{Kept.deltas_of, Merging.AreMerged}
use Rattle.seedpaint_c.proofs.merging.merge.Goals as goal

pub returns-in_err-frames-clause-ended : goal.returns-in_err-frames-clause-ended
returns-in_err-frames-clause-ended c =
    let p = err_from_is_err_and c.from_residual-in_err-frames.result c.from_residual-in_err-frames.ensures.1 in
    let deltas = c.in_ok-deltas.deltas.items in
    let spelled = c.in_ok-deltas.ensures.spelled in
    rw (p.1, p.2) (elim c.in_err-frames.ensures.refused [
      | inl memory ↦ inr (inr (inr (inr (inr memory))))
      | inr (inl fault) ↦ inl (inr (deltas, spelled, inl fault))
      | inr (inr other) ↦ inl (inr (deltas, spelled, inr (inl other)))
    ])

pub returns-clause-merged : goal.returns-clause-merged
returns-clause-merged c =
    let mask = c.args.mask.now in
    let state = c.in_ok-state.state in
    let front = deltas_of c.in_ok-frames.frames.items in
    record {
      deltas = c.in_ok-deltas.deltas.items;
      edits_spelled = c.in_ok-deltas.ensures.spelled;
      kept = front;
      old_spelled = c.in_ok-frames.ensures.spelled;
      state = state;
      merged = subst (λ (ds : List State). AreMerged mask.w mask.h (front ++ ds) state) c.deref-2.ensures.value
          (subst (λ (fs : List Frame). AreMerged mask.w mask.h (deltas_of fs ++ c.deref-2.result.now) state)
          c.deref.ensures.value c.in_ok-state.ensures.merged);
      new_is = c.in_ok-new.ensures.text;
      new_spelled = spells_pieces c.args.conn mask.print c.in_ok-new.new.items (pieces_of 1400 state)
          c.in_ok-new.ensures.spells;
    }
