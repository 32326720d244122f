use Rattle.std.proofs.{Common.◌⊎◌, Common.IfErr, Common.subst, lemmas.Result.err_from_is_err_and}
use Rattle.run_faults.specs.RunError.{IsReadingFault}
use Rattle.view_session.specs.Kept.{KeptStops}
use Rattle.view_session.proofs.gathering.gather_beside.Goals as goal

pub returns-in_err-gathered-clause-refused : goal.returns-in_err-gathered-clause-refused
returns-in_err-gathered-clause-refused g c =
    let p = err_from_is_err_and c.from_residual.result c.from_residual.ensures.1 in
    rw (p.1, p.2)
    (subst (λ r. IfErr r (λ e. IsReadingFault e ⊎ KeptStops c.args.conn c.args.old.now c.args.input.now e))
    c.in_err-gathered.was c.beside-gathered.ensures.3)
