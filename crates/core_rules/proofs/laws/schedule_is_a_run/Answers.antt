-- The law `schedule_is_a_run`, by its lemma.
use Rattle.core_rules.proofs.Schedules.{schedule_is_run}
use Rattle.core_rules.proofs.laws.schedule_is_a_run.Goals as goal

pub returns : goal.returns
returns c = schedule_is_run
