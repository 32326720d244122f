use Rattle.std.proofs.Common.{◌++◌, ◌⊎◌, List, inl, inr, subst, map}
use Rattle.std.proofs.lemmas.Result.{err_from_is_err_and, IfErr-weaker}
use Rattle.stroke_lattice.specs.State.{State}
use Rattle.view_session.specs.Merging.{AreMerged}
use Rattle.view_session.specs.View.{DeltasAreRefused, DeltasHalt, InputStops, IsImageOfView}
use Rattle.run_faults.specs.RunError.{IsReadingFault}
use Rattle.derived_views.specs.Shown.{IsShown}
use Rattle.view_session.proofs.{Deltas.behind_one, Results.ok_both}
use Rattle.view_session.proofs.Refusals.{RefusedBehind, faulty_input, input_stops}
use Rattle.view_session.proofs.showing.show_over.Goals as goal

pub returns-in_err-deltas-clause-refused : goal.returns-in_err-deltas-clause-refused
returns-in_err-deltas-clause-refused g c =
    let p = err_from_is_err_and c.from_residual.result c.from_residual.ensures.1 in
    rw (p.1, p.2) (elim c.in_err-deltas.ensures.refused [
      | inl memory ↦ inl memory
      | inr (inl edits) ↦ inr (inr (inl edits))
      | inr (inr fault) ↦ inr (inl (faulty_input (RefusedBehind c.args.old.now) c.args.input.now
          c.in_err-deltas.field-0.0 fault))
    ])

pub returns-clause-shown : goal.returns-clause-shown
returns-clause-shown g c =
    let mask = c.in_ok-deltas.mask in
    let old = c.args.old.now in
    let deltas = c.in_ok-deltas.deltas.items in
    let given = map (λ (s : State). s) c.from_ref.result.now ++ c.deref.result.now in
    let same = behind_one c.from_ref.result.now old c.deref.result.now deltas c.from_ref.ensures.value
    c.deref.ensures.value in
    ok_both c.show.result (λ parts. AreMerged mask.raster.width mask.raster.height given parts.1)
    (λ parts. IsShown c.args.conn mask parts.1 parts.0)
    (λ parts. IsImageOfView c.args.conn old c.args.input.now parts.1 parts.0)
    (λ parts merged shown. record {
      mask = mask;
      deltas = deltas;
      spelled = c.in_ok-deltas.ensures.spelled;
      merged = subst (λ (ds : List State). AreMerged mask.raster.width mask.raster.height ds parts.1) same merged;
      shown = shown;
    })
    c.show.ensures.merged c.show.ensures.shown

pub returns-clause-refused : goal.returns-clause-refused
returns-clause-refused g c =
    let mask = c.in_ok-deltas.mask in
    let old = c.args.old.now in
    let deltas = c.in_ok-deltas.deltas.items in
    let same = behind_one c.from_ref.result.now old c.deref.result.now deltas c.from_ref.ensures.value
    c.deref.ensures.value in
    IfErr-weaker c.show.result _ (λ e. IsReadingFault e ⊎ InputStops old c.args.input.now e)
    (λ e why. inr (input_stops old c.args.input.now mask deltas e c.in_ok-deltas.ensures.spelled
    (subst (λ (ds : List State). DeltasAreRefused ds mask e ⊎ DeltasHalt ds mask e) same why)))
    c.show.ensures.refused
