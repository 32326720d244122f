-- The law `settling_goes_on`, by its lemma.
use Rattle.core_rules.proofs.Leaving.{settling_goes_on}
use Rattle.core_rules.proofs.laws.settling_goes_on.Goals as goal

pub returns : goal.returns
returns c = settling_goes_on
