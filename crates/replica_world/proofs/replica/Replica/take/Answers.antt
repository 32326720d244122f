use Rattle.std.proofs.Common.{◌∷◌, [], refl, Some}
use Rattle.std.proofs.lemmas.Result.{IfOk-from_err}
use Rattle.reset_core.proofs.Scheduling.{taken_and_abandoned}
use Rattle.replica_world.proofs.replica.Replica.take.Goals as goal

pub returns-in-Ok-clause-taken : goal.returns-in-Ok-clause-taken
returns-in-Ok-clause-taken c =
    let kept = c.in-Ok.ensures.kept in
    let taken = rw c.in-Some.is at c.in_ok-job.ensures.taken in
    rw (← c.self.view_is) (Some c.in-Some.job, kept.0 ∷ [], taken, (kept.0, kept.1, kept.2, refl), kept.3)

pub returns-in-Err-clause-err : goal.returns-in-Err-clause-err
returns-in-Err-clause-err c =
    let taken = rw c.in-Some.is at c.in_ok-job.ensures.taken in
    rw (← c.self.view_is)
    (taken_and_abandoned c.self.inside.core c.take.new.self c.abandon-was_out.new.self c.args.tile c.in-Some.job
    c.ticket-ticket.result c.abandon-was_out.result taken c.ticket-ticket.ensures c.abandon-was_out.ensures)

pub returns-in_err-job-clause-taken : goal.returns-in_err-job-clause-taken
returns-in_err-job-clause-taken c = IfOk-from_err _ _ c.from_residual.ensures.0
