-- The law `other_tiles_rise`, by its lemma.
use Rattle.core_rules.proofs.Resets.{others_rise}
use Rattle.core_rules.proofs.laws.other_tiles_rise.Goals as goal

pub returns : goal.returns
returns c = others_rise
