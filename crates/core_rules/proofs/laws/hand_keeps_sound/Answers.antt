-- The law `hand_keeps_sound`, by its lemma.
use Rattle.core_rules.proofs.Handing.{hand_keeps_sound}
use Rattle.core_rules.proofs.laws.hand_keeps_sound.Goals as goal

pub returns : goal.returns
returns c = hand_keeps_sound
