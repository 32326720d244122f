-- The law `settling_so_far_is_within_work`, by its lemma.
use Rattle.core_rules.proofs.Counting.{settling_is_within_work}
use Rattle.core_rules.proofs.laws.settling_so_far_is_within_work.Goals as goal

pub returns : goal.returns
returns c = settling_is_within_work c.edges_are_open.ensures
