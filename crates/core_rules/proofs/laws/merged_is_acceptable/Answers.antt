-- The law `merged_is_acceptable`, by its lemma.
use Rattle.core_rules.proofs.Resets.{merged_is_acceptable}
use Rattle.core_rules.proofs.laws.merged_is_acceptable.Goals as goal

pub returns : goal.returns
returns c = merged_is_acceptable
