-- The law `settling_is_a_run`, by its lemma.
use Rattle.core_rules.proofs.Running.{settled_is_run}
use Rattle.core_rules.proofs.laws.settling_is_a_run.Goals as goal

pub returns : goal.returns
returns c = settled_is_run
