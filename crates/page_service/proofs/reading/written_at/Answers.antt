use Rattle.std.proofs.{Common.refl, Common.option_copied, lemmas.Result.err_from_is_err_and}
use Rattle.page_service.proofs.Queries.{no_moment_spelled, untaken}
use Rattle.page_service.specs.declared.table.Asked.TheVariants as asked
use Rattle.page_service.proofs.reading.written_at.Goals as goal

pub returns-in_err-moment_in-in-Edits-clause-err :
    goal.returns-in_err-moment_in-in-Edits-clause-err
returns-in_err-moment_in-in-Edits-clause-err c =
    let p = err_from_is_err_and c.from_residual.result c.from_residual.ensures.1 in
    let why = c.in_err-moment_in-in-Edits.ensures.err in
    rw (p.1, p.2, why.0, c.in-Edits.is)
    (no_moment_spelled (asked.Edits (record { run = 0; step = 0 })) (option_copied c.args.query) refl why.1)

pub returns-in-State-clause-err : goal.returns-in-State-clause-err
returns-in-State-clause-err c =
    untaken asked.Join c.args.resource (option_copied c.args.query) c.without_query.result refl c.in-State.is
    c.without_query.ensures.err
