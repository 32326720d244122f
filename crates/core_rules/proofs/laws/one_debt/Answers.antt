-- The law `one_debt`, by its lemma.
use Rattle.core_rules.proofs.Counting.{one_debt}
use Rattle.core_rules.proofs.laws.one_debt.Goals as goal

pub returns : goal.returns
returns c = one_debt
