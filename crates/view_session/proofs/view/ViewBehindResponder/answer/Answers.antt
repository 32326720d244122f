use Rattle.std.proofs.lemmas.Result.{err_from_is_err_and}
use Rattle.view_session.proofs.Refusals.{no_device}
use Rattle.view_session.proofs.view.ViewBehindResponder.answer.Goals as goal

pub returns-in_err-image-clause-no_device : goal.returns-in_err-image-clause-no_device
returns-in_err-image-clause-no_device g c =
    let p = err_from_is_err_and c.from_residual.result c.from_residual.ensures.1 in
    rw (p.1, p.2) (λ device. no_device c.one_fault.ensures.device c.args.self.now.old.now c.args.input.now
    c.in_err-image.field-0.0 device c.in_err-image.ensures.refused)

pub returns-in_err-image-clause-refused : goal.returns-in_err-image-clause-refused
returns-in_err-image-clause-refused g c =
    let p = err_from_is_err_and c.from_residual.result c.from_residual.ensures.1 in
    rw (p.1, p.2) c.in_err-image.ensures.refused
