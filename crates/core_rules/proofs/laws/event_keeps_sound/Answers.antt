-- The law `event_keeps_sound`, by its lemma.
use Rattle.core_rules.proofs.Running.{event_keeps_sound}
use Rattle.core_rules.proofs.laws.event_keeps_sound.Goals as goal

pub returns : goal.returns
returns c = event_keeps_sound c.edges_are_open.ensures
