-- The law `runs_follow`, by its lemma.
use Rattle.core_rules.proofs.Running.{run_append}
use Rattle.core_rules.proofs.laws.runs_follow.Goals as goal

pub returns : goal.returns
returns c = run_append
