use Rattle.std.proofs.Common.{◌++◌, ◌∷◌, [], List, inl, inr, ap, subst, refl}
use Rattle.std.proofs.lemmas.Result.{err_from_is_err_and}
use Rattle.stroke_lattice.specs.Pieces.{pieces_of}
use Rattle.spd_codec.specs.declared.frame.Frame.{Frame}
use Rattle.run_faults.specs.declared.run_error.RunError.TheVariants.{Spd}
use Rattle.view_session.specs.{Kept.deltas_of, Merging.AreMerged, Merging.IsStop}
use Rattle.view_session.proofs.KeptViews.{spells_pieces}
use Rattle.view_session.proofs.joining.Strokes.joined_over.Goals as goal

pub returns-in_err-frames-clause-refused : goal.returns-in_err-frames-clause-refused
returns-in_err-frames-clause-refused c =
    let p = err_from_is_err_and c.from_residual.result c.from_residual.ensures.1 in
    rw (p.1, p.2) (elim c.in_err-frames.ensures.refused [
      | inl memory ↦ inl memory
      | inr (inl fault) ↦ inr (inl fault)
      | inr (inr other) ↦ inr (inr (inl other))
    ])

pub returns-in_err-joined-clause-refused : goal.returns-in_err-joined-clause-refused
returns-in_err-joined-clause-refused c =
    let p = err_from_is_err_and c.from_residual-in_err-joined.result c.from_residual-in_err-joined.ensures.1 in
    let me = c.args.self.now in
    let why = c.in_err-joined.field-0.0 in
    rw (p.1, p.2) (inr (inr (inr (
      deltas_of c.in_ok-frames.frames.items,
      why,
      c.in_ok-frames.ensures.spelled,
      refl,
      subst (λ (fs : List Frame). IsStop me.width me.height (deltas_of fs ++ me.state ∷ []) why)
          c.deref.ensures.value c.in_err-joined.ensures.stopped,
    ))))

pub returns-in_err-made-clause-refused : goal.returns-in_err-made-clause-refused
returns-in_err-made-clause-refused c =
    let p = err_from_is_err_and c.from_residual-in_err-made.result c.from_residual-in_err-made.ensures.1 in
    rw (p.1, p.2) (inl (ap Spd c.in_err-made.ensures.memory))

pub returns-clause-joined : goal.returns-clause-joined
returns-clause-joined c =
    let me = c.args.self.now in
    record {
      kept = deltas_of c.in_ok-frames.frames.items;
      found_spelled = c.in_ok-frames.ensures.spelled;
      joined = c.in_ok-joined.joined;
      merged = subst
          (λ (fs : List Frame). AreMerged me.width me.height (deltas_of fs ++ me.state ∷ []) c.in_ok-joined.joined)
          c.deref.ensures.value c.in_ok-joined.ensures.merged;
      made_is = c.in_ok-made.ensures.text;
      made_spelled = spells_pieces me.conn me.print c.in_ok-made.made.items (pieces_of 1400 c.in_ok-joined.joined)
          c.in_ok-made.ensures.spells;
    }
