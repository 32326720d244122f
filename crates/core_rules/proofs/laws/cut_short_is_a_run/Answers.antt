-- The law `cut_short_is_a_run`, by its lemma.
use Rattle.core_rules.proofs.Running.{cut_short_is_run}
use Rattle.core_rules.proofs.laws.cut_short_is_a_run.Goals as goal

pub returns : goal.returns
returns c = cut_short_is_run
