-- The law `merge_keeps_sound`, by its lemma.
use Rattle.core_rules.proofs.Merging.{merge_keeps_sound}
use Rattle.core_rules.proofs.laws.merge_keeps_sound.Goals as goal

pub returns : goal.returns
returns c = merge_keeps_sound
