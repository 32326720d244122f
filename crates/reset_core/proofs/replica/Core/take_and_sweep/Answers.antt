use Rattle.std.proofs.Common.{sym, subst, Option}
use Rattle.tile_generations.specs.Jobs.{Job}
use Rattle.core_rules.specs.Sweeps.{IsTaken}
use Rattle.reset_core.specs.Scheduling.{Kept, kept_of, LeadsOn}
use Rattle.reset_core.proofs.Scheduling.{none_there, take_gives_none, take_gives_job, taken_and_abandoned}
use Rattle.core_rules.specs.declared.step.Step.TheVariants as steps
use Rattle.reset_core.proofs.replica.Core.take_and_sweep.Goals as goal

pub returns-in_default-clause-step : goal.returns-in_default-clause-step
returns-in_default-clause-step c = λ n.
    let core = c.args.self.now in
    let none = none_there c.in_ok-job.field-0 c.in_default.not-Some in
    take_gives_none n c.args.tile core c.take.new.self (kept_of c.args.tally.now)
    (subst (λ (job : Option Job). IsTaken core c.args.tile job c.take.new.self) none c.in_ok-job.ensures.taken)

pub returns-in-Ok-clause-step : goal.returns-in-Ok-clause-step
returns-in-Ok-clause-step c = λ n.
    let core = c.args.self.now in
    let kept = kept_of c.args.tally.now in
    let result = c.in-Ok.ensures.kept in
    let is_taken = rw c.in-Some.is at c.in_ok-job.ensures.taken in
    subst (λ (more : Kept). LeadsOn (steps.Take c.args.tile) n core kept c.take.new.self more) (sym result.3)
    (take_gives_job n c.args.tile core c.take.new.self kept c.in-Some.job result.0 is_taken result.1 result.2)

pub returns-in-Err-clause-err : goal.returns-in-Err-clause-err
returns-in-Err-clause-err c =
    let core = c.args.self.now in
    let is_taken =
    rw c.in-Some.is at c.in_ok-job.ensures.taken in (
      is_taken.0,
      taken_and_abandoned core c.take.new.self c.abandon-was_out.new.self c.args.tile c.in-Some.job
          c.ticket-ticket.result c.abandon-was_out.result is_taken c.ticket-ticket.ensures c.abandon-was_out.ensures,
    )
