-- The law `one_successor`, by its lemma.
use Rattle.core_rules.proofs.Successors.{one_successor}
use Rattle.core_rules.proofs.laws.one_successor.Goals as goal

pub returns : goal.returns
returns c = one_successor
