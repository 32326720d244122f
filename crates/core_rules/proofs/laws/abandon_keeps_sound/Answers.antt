-- The law `abandon_keeps_sound`, by its lemma.
use Rattle.core_rules.proofs.Taking.{abandon_keeps_sound}
use Rattle.core_rules.proofs.laws.abandon_keeps_sound.Goals as goal

pub returns : goal.returns
returns c = abandon_keeps_sound
