-- The law `quiet_owes_nothing`, by its lemma.
use Rattle.core_rules.proofs.Counting.{quiet_owes_nothing}
use Rattle.core_rules.proofs.laws.quiet_owes_nothing.Goals as goal

pub returns : goal.returns
returns c = quiet_owes_nothing
