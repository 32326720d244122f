use Rattle.std.proofs.{Common.refl, Common.option_copied, lemmas.Result.err_from_is_err_and}
use Rattle.page_service.proofs.Queries.{no_moment_spelled, untaken}
use Rattle.page_service.specs.declared.table.Asked.TheVariants as asked
use Rattle.page_service.proofs.reading.read_at.Goals as goal

pub returns-in_err-moment_in-in-Changes-clause-err :
    goal.returns-in_err-moment_in-in-Changes-clause-err
returns-in_err-moment_in-in-Changes-clause-err c =
    let p = err_from_is_err_and c.from_residual.result c.from_residual.ensures.1 in
    let why = c.in_err-moment_in-in-Changes.ensures.err in
    rw (p.1, p.2, why.0, c.in-Changes.is)
    (no_moment_spelled (asked.Changes (record { run = 0; step = 0 })) (option_copied c.args.query) refl why.1)

pub returns-in-Page-clause-err : goal.returns-in-Page-clause-err
returns-in-Page-clause-err c =
    untaken asked.Page c.args.resource (option_copied c.args.query) c.without_query.result refl c.in-Page.is
    c.without_query.ensures.err

pub returns-in-Mask-clause-err : goal.returns-in-Mask-clause-err
returns-in-Mask-clause-err c =
    untaken asked.Mask c.args.resource (option_copied c.args.query) c.without_query-in-Mask.result refl c.in-Mask.is
    c.without_query-in-Mask.ensures.err

pub returns-in-Image-clause-err : goal.returns-in-Image-clause-err
returns-in-Image-clause-err c =
    untaken asked.Image c.args.resource (option_copied c.args.query) c.without_query-in-Image.result refl c.in-Image.is
    c.without_query-in-Image.ensures.err

pub returns-in-State-clause-err : goal.returns-in-State-clause-err
returns-in-State-clause-err c =
    untaken asked.State c.args.resource (option_copied c.args.query) c.without_query-in-State.result refl c.in-State.is
    c.without_query-in-State.ensures.err

pub returns-in-Strokes-clause-err : goal.returns-in-Strokes-clause-err
returns-in-Strokes-clause-err c =
    untaken asked.Strokes c.args.resource (option_copied c.args.query) c.without_query-in-Strokes.result refl
    c.in-Strokes.is c.without_query-in-Strokes.ensures.err
