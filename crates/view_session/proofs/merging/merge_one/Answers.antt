use Rattle.std.proofs.{Common.Err, Common.ap, lemmas.Result.err_from_is_err_and}
use Rattle.view_session.proofs.Deltas.{merge_refused}
use Rattle.view_session.proofs.merging.merge_one.Goals as goal

pub returns-in_err-_change-clause-refused : goal.returns-in_err-_change-clause-refused
returns-in_err-_change-clause-refused c =
    let p = err_from_is_err_and c.from_residual.result c.from_residual.ensures.1 in
    let clauses = c.in_err-_change.ensures in
    rw (p.1, p.2) (merge_refused c.args.w c.args.h c.args.state.now c.args.delta.now c.in_err-_change.field-0.0
    c.in_default.ensures (λ e. clauses.memory (ap Err e)) (λ tag e. (clauses.conflict tag).0 (ap Err e)))
