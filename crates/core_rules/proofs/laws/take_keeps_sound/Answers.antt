-- The law `take_keeps_sound`, by its lemma.
use Rattle.core_rules.proofs.Taking.{take_keeps_sound}
use Rattle.core_rules.proofs.laws.take_keeps_sound.Goals as goal

pub returns : goal.returns
returns c = take_keeps_sound
