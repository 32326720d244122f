-- The law `schedule_is_within_work`, by its lemma.
use Rattle.core_rules.proofs.Counting.{schedule_is_within_work}
use Rattle.core_rules.proofs.laws.schedule_is_within_work.Goals as goal

pub returns : goal.returns
returns c = schedule_is_within_work c.edges_are_open.ensures
