use Rattle.std.proofs.{Common.inl, Common.inr, Common.ap, lemmas.Result.err_from_is_err_and}
use Rattle.run_faults.specs.declared.run_error.RunError.TheVariants.{Spd}
use Rattle.view_session.proofs.KeptViews.{writing_stops}
use Rattle.node_session.proofs.Paintings.{spelled_image}
use Rattle.node_session.proofs.running.spelled.Goals as goal

pub returns-in_err-image-clause-refused : goal.returns-in_err-image-clause-refused
returns-in_err-image-clause-refused g c =
    let p = err_from_is_err_and c.from_residual.result c.from_residual.ensures.1 in
    rw (p.1, p.2) c.in_err-image.ensures.refused

pub returns-in_err-new-clause-refused : goal.returns-in_err-new-clause-refused
returns-in_err-new-clause-refused g c =
    let p = err_from_is_err_and c.from_residual-in_err-new.result c.from_residual-in_err-new.ensures.1 in
    let shown = c.in_ok-image.ensures.shown.2 in
    rw (p.1, p.2) (inr (inl (writing_stops _ _ _ shown.mask shown.first _ shown.gathered
    (ap Spd c.in_err-new.ensures.memory))))

pub returns-clause-shown : goal.returns-clause-shown
returns-clause-shown g c =
    let shown = c.in_ok-image.ensures.shown in (
      shown.0,
      c.in_ok-image.strokes.state,
      shown.1,
      spelled_image _ _ _ _ _ c.in_ok-image.strokes _ shown.2 c.in_ok-new.ensures.text c.in_ok-new.ensures.spells,
    )
