use Rattle.std.proofs.{Common.inl, Common.inr, Common.ap, Common.refl, lemmas.Result.err_from_is_err_and}
use Rattle.run_faults.specs.declared.run_error.RunError.TheVariants.{Pgm}
use Rattle.view_session.proofs.derive.DeriverResponder.answer.Goals as goal

pub returns-in_err-image-clause-refused : goal.returns-in_err-image-clause-refused
returns-in_err-image-clause-refused g c =
    let p = err_from_is_err_and c.from_residual.result c.from_residual.ensures.1 in
    rw (p.1, p.2) (elim c.in_err-image.ensures.fault [
      | inl memory ↦ inl (ap Pgm memory)
      | inr fault ↦ inr (inl (_, refl, fault))
    ])
