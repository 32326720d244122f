-- The law `sound_is_lawful`, by its lemma.
use Rattle.core_rules.proofs.Quiet.{sound_is_lawful}
use Rattle.core_rules.proofs.laws.sound_is_lawful.Goals as goal

pub returns : goal.returns
returns c = sound_is_lawful
