-- The law `no_death_hits_none`, by its lemma.
use Rattle.core_rules.proofs.Resets.{no_death_hits_none}
use Rattle.core_rules.proofs.laws.no_death_hits_none.Goals as goal

pub returns : goal.returns
returns c = no_death_hits_none
