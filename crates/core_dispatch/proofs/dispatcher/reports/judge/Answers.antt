use Rattle.core_dispatch.proofs.Collecting.{judged_failed}
use Rattle.core_dispatch.proofs.dispatcher.reports.judge.Goals as goal

pub returns-in-Failed : goal.returns-in-Failed
returns-in-Failed c =
    rw c.in-Failed.is
    (judged_failed c.args.books.now c.abandon-was_out.new.self c.in-Failed.ticket c.abandon-was_out.result
    c.abandon-was_out.ensures.abandoned c.abandon-was_out.ensures.rest)
