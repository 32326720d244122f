use Rattle.std.proofs.Common.{◌++◌, List, ℕ, Err, ap, inl, inr, subst}
use Rattle.std.proofs.lemmas.Result.{err_from_is_err_and}
use Rattle.stroke_lattice.specs.State.{State}
use Rattle.spd_codec.specs.declared.frame.Frame.{Frame}
use Rattle.view_session.specs.Kept.{print_of, deltas_of, FileSpells, OldIsRefused}
use Rattle.view_session.specs.Merging.{AreMerged, IsStop}
use Rattle.view_session.proofs.{Deltas.join_fits, Deltas.resized, KeptViews.file_stops, KeptViews.kept_stops}
use Rattle.view_session.proofs.{Refusals.faulty_input, Refusals.deltas_stop, gathering.gather.Goals.In_ok-frames}
use Rattle.view_session.proofs.{gathering.gather.Goals.In_ok-state}
use Rattle.view_session.proofs.gathering.gather.Goals as goal

-- what the old bytes spell
kept : (c : In_ok-frames)
    → FileSpells c.args.conn (print_of c.in_ok-deltas.mask) c.args.old.now (deltas_of c.in_ok-frames.frames.items)
kept c =
    subst (λ (p : List ℕ). FileSpells c.args.conn p c.args.old.now (deltas_of c.in_ok-frames.frames.items))
    c.print_of-print.ensures
    c.in_ok-frames.ensures.spelled

-- all are merged, on an image of the mask's sides
merged : (c : In_ok-state)
    → AreMerged c.in_ok-deltas.mask.raster.width c.in_ok-deltas.mask.raster.height
    (deltas_of c.in_ok-frames.frames.items ++ c.in_ok-deltas.deltas.items) c.in_ok-state.state
merged c =
    let mask = c.in_ok-deltas.mask in
    let state = c.in_ok-state.state in
    let front = deltas_of c.in_ok-frames.frames.items in
    subst (λ (ds : List State). AreMerged mask.raster.width mask.raster.height (front ++ ds) state)
    c.deref-2.ensures.value
    (subst (λ (fs : List Frame). AreMerged mask.raster.width mask.raster.height
    (deltas_of fs ++ c.deref-2.result.now) state)
    c.deref.ensures.value
    (resized (λ w h. AreMerged w h (deltas_of c.deref.result.now ++ c.deref-2.result.now) state) c.width.result
    mask.raster.width c.height.result mask.raster.height c.width.ensures.value c.height.ensures.value
    c.in_ok-state.ensures.merged))

pub returns-in_err-deltas-clause-refused : goal.returns-in_err-deltas-clause-refused
returns-in_err-deltas-clause-refused c =
    let p = err_from_is_err_and c.from_residual.result c.from_residual.ensures.1 in
    rw (p.1, p.2) (elim c.in_err-deltas.ensures.refused [
      | inl memory ↦ inl memory
      | inr (inl edits) ↦ inr (inr (inl edits))
      | inr (inr fault) ↦ inr (inl (faulty_input (OldIsRefused c.args.conn c.args.old.now) c.args.input.now
          c.in_err-deltas.field-0.0 fault))
    ])

pub returns-in_err-frames-clause-refused : goal.returns-in_err-frames-clause-refused
returns-in_err-frames-clause-refused c =
    let p = err_from_is_err_and c.from_residual-in_err-frames.result c.from_residual-in_err-frames.ensures.1 in
    rw (p.1, p.2) (inr (file_stops c.args.conn c.print_of-print.result c.args.old.now c.args.input.now
    c.in_ok-deltas.mask
    c.in_ok-deltas.deltas.items c.in_err-frames.field-0.0 c.print_of-print.ensures c.in_ok-deltas.ensures.spelled
    c.in_err-frames.ensures.refused (λ memory. c.in_err-frames.ensures.some (ap Err memory))))

pub returns-in_err-state-clause-refused : goal.returns-in_err-state-clause-refused
returns-in_err-state-clause-refused c =
    let p = err_from_is_err_and c.from_residual-in_err-state.result c.from_residual-in_err-state.ensures.1 in
    let mask = c.in_ok-deltas.mask in
    let e = c.in_err-state.field-0.0 in
    let front = deltas_of c.in_ok-frames.frames.items in
    let all = front ++ c.in_ok-deltas.deltas.items in
    rw (p.1, p.2) (inr (kept_stops c.args.conn c.args.old.now c.args.input.now mask c.in_ok-deltas.deltas.items front _
    c.in_ok-deltas.ensures.spelled (kept (goal.at.returns-in_err-state-clause-refused c).In_ok-frames)
    (deltas_stop all mask e
    (subst (λ (ds : List State). IsStop mask.raster.width mask.raster.height (front ++ ds) e)
    c.deref-2.ensures.value
    (subst (λ (fs : List Frame). IsStop mask.raster.width mask.raster.height
    (deltas_of fs ++ c.deref-2.result.now) e) c.deref.ensures.value
    (resized (λ w h. IsStop w h (deltas_of c.deref.result.now ++ c.deref-2.result.now) e) c.width.result
    mask.raster.width c.height.result mask.raster.height c.width.ensures.value c.height.ensures.value
    c.in_err-state.ensures.stopped))))))

pub returns-clause-gathered : goal.returns-clause-gathered
returns-clause-gathered c = record {
  deltas = c.in_ok-deltas.deltas.items;
  spelled = c.in_ok-deltas.ensures.spelled;
  kept = deltas_of c.in_ok-frames.frames.items;
  old_spelled = kept (goal.at.returns-clause-gathered c).In_ok-frames;
  merged = merged (goal.at.returns-clause-gathered c).In_ok-state;
}

pub returns-clause-print : goal.returns-clause-print
returns-clause-print c = c.print_of-print.ensures

pub returns-clause-fits : goal.returns-clause-fits
returns-clause-fits c = join_fits _ _ _ _ (merged (goal.at.returns-clause-fits c).In_ok-state)
