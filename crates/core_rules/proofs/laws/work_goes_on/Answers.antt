-- The law `work_goes_on`, by its lemma.
use Rattle.core_rules.proofs.InPlaceSweeps.{work_goes_on}
use Rattle.core_rules.proofs.laws.work_goes_on.Goals as goal

pub returns : goal.returns
returns c = work_goes_on
