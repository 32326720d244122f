use Rattle.std.proofs.{Common.inl, Common.inr, Common.ap, Common.refl, lemmas.Result.err_from_is_err_and}
use Rattle.run_faults.specs.declared.run_error.RunError.TheVariants.{Edit, Pgm}
use Rattle.view_session.proofs.input.read_input.Goals as goal

pub returns-in_err-deltas-clause-refused : goal.returns-in_err-deltas-clause-refused
returns-in_err-deltas-clause-refused c =
    let p = err_from_is_err_and c.from_residual.result c.from_residual.ensures.1 in
    rw (p.1, p.2) (elim c.in_err-deltas.ensures.refused [
      | inl memory ↦ inr (inl (ap Edit memory, c.in-Some.edits.now, c.in-Some.file.now, c.in-Some.ensures.split))
      | inr fault ↦ inr (inr (inr (
        c.in-Some.edits.now,
        c.in-Some.file.now,
        c.in-Some.ensures.split,
        inl
            (c.in_err-deltas.field-0.0, refl, fault),
      )))
    ])

pub returns-in_err-mask-clause-refused : goal.returns-in_err-mask-clause-refused
returns-in_err-mask-clause-refused c =
    let p = err_from_is_err_and c.from_residual-in_err-mask.result c.from_residual-in_err-mask.ensures.1 in
    rw (p.1, p.2) (elim c.in_err-mask.ensures.fault [
      | inl memory ↦ inl (ap Pgm memory)
      | inr fault ↦ inr (inr (inr (
        c.in-Some.edits.now,
        c.in-Some.file.now,
        c.in-Some.ensures.split,
        inr (c.in_ok-deltas.deltas.items, c.in_ok-deltas.ensures.spelled, inl (c.in_err-mask.field-0.0, refl, fault)),
      )))
    ])
