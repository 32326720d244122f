-- The law `opened_is_sound`, by its lemma.
use Rattle.core_rules.proofs.Opening.{opened_is_sound}
use Rattle.core_rules.proofs.laws.opened_is_sound.Goals as goal

pub returns : goal.returns
returns c = opened_is_sound
