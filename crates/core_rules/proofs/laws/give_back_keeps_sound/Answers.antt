-- The law `give_back_keeps_sound`, by its lemma.
use Rattle.core_rules.proofs.Joining.{give_back_keeps_sound}
use Rattle.core_rules.proofs.laws.give_back_keeps_sound.Goals as goal

pub returns : goal.returns
returns c = give_back_keeps_sound c.edges_are_open.ensures
