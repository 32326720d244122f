use Rattle.std.proofs.Common.{◌≡◌, List, subst, Some, None, slice_get}
use Rattle.tile_generations.specs.Jobs.{Swept}
use Rattle.reset_core.specs.Scheduling.{kept_of}
use Rattle.reset_core.proofs.Scheduling.{no_item, item_there, no_result_to_abandon, job_abandoned, job_not_out}
use Rattle.reset_core.proofs.replica.Core.abandon_job_of.Goals as goal

pub returns-in_default-clause-step : goal.returns-in_default-clause-step
returns-in_default-clause-step c = λ n. no_result_to_abandon n c.args.place c.args.self.now (kept_of c.args.tally.now)
    (subst (λ (results : List Swept). slice_get results c.args.place ≡ None) c.deref.ensures.value
    (no_item c.deref.result.now c.args.place c.get.result c.get.ensures.lookup c.in_default.not-Some))

pub returns-then-abandon-clause-step : goal.returns-then-abandon-clause-step
returns-then-abandon-clause-step c = λ n.
    let swept = c.in-Some.swept.now in
    let there =
    subst (λ (results : List Swept). slice_get results c.args.place ≡ Some swept) c.deref.ensures.value
    (item_there c.deref.result.now c.args.place c.get.result c.in-Some.swept c.get.ensures.lookup c.in-Some.is) in
    job_abandoned n c.args.place c.args.self.now c.abandon.new.self (kept_of c.args.tally.now) swept there
    (rw c.ticket-ticket.ensures at c.if-abandon.ensures)

pub returns-else-abandon-clause-step : goal.returns-else-abandon-clause-step
returns-else-abandon-clause-step c = λ n.
    let swept = c.in-Some.swept.now in
    let there =
    subst (λ (results : List Swept). slice_get results c.args.place ≡ Some swept) c.deref.ensures.value
    (item_there c.deref.result.now c.args.place c.get.result c.in-Some.swept c.get.ensures.lookup c.in-Some.is) in
    job_not_out n c.args.place c.args.self.now c.abandon.new.self (kept_of c.args.tally.now) swept there
    (rw c.ticket-ticket.ensures at c.if-abandon.ensures)
