use Rattle.std.proofs.{Common.◌⊎◌, Common.refl, Common.subst, lemmas.Result.err_from_is_err_and}
use Rattle.stroke_lattice.specs.State.{State}
use Rattle.run_faults.specs.RunError.{IsReadingFault}
use Rattle.view_session.specs.View.{InputStops, IsImageOfView}
use Rattle.view_session.proofs.Refusals.{no_device}
use Rattle.view_session.proofs.view.FirstViewResponder.answer.Goals as goal

pub returns-in_err-image-clause-refused : goal.returns-in_err-image-clause-refused
returns-in_err-image-clause-refused g c =
    let p = err_from_is_err_and c.from_residual.result c.from_residual.ensures.1 in
    rw (p.1, p.2) (subst (λ (s : State). IsReadingFault c.in_err-image.field-0.0 ⊎ InputStops s c.args.input.now
    c.in_err-image.field-0.0) c.in-Ok.ensures.value c.in_err-image.ensures.refused)

pub returns-in_err-image-clause-no_device : goal.returns-in_err-image-clause-no_device
returns-in_err-image-clause-no_device g c =
    let p = err_from_is_err_and c.from_residual.result c.from_residual.ensures.1 in
    rw (p.1, p.2) (λ device. no_device c.one_fault.ensures.device c.in-Ok.old c.args.input.now c.in_err-image.field-0.0
    device c.in_err-image.ensures.refused)

pub returns-clause-answered : goal.returns-clause-answered
returns-clause-answered g c = (
  c.in_ok-image.field-0-1,
  (
    c.in_ok-image.image,
    subst (λ (s : State). IsImageOfView c.args.self.now.conn s c.args.input.now c.in_ok-image.field-0-1
        c.in_ok-image.image) c.in-Ok.ensures.value c.in_ok-image.ensures.shown,
    refl,
  ),
)
