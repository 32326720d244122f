-- The law `other_tiles_stay`, by its lemma.
use Rattle.core_rules.proofs.Resets.{others_stay}
use Rattle.core_rules.proofs.laws.other_tiles_stay.Goals as goal

pub returns : goal.returns
returns c = others_stay
