-- The law `schedule_joins`, by its lemma.
use Rattle.core_rules.proofs.Schedules.{schedule_joins}
use Rattle.core_rules.proofs.laws.schedule_joins.Goals as goal

pub returns : goal.returns
returns c = schedule_joins
