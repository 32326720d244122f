-- The law `refused_is_not_acceptable`, by its lemma.
use Rattle.core_rules.proofs.Resets.{refused_is_not_acceptable}
use Rattle.core_rules.proofs.laws.refused_is_not_acceptable.Goals as goal

pub returns : goal.returns
returns c = refused_is_not_acceptable
