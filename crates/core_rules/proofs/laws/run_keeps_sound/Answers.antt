-- The law `run_keeps_sound`, by its lemma.
use Rattle.core_rules.proofs.Running.{run_keeps_sound}
use Rattle.core_rules.proofs.laws.run_keeps_sound.Goals as goal

pub returns : goal.returns
returns c = run_keeps_sound c.edges_are_open.ensures
