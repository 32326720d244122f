-- The law `hit_tiles_advance`, by its lemma.
use Rattle.core_rules.proofs.Resets.{hit_advances}
use Rattle.core_rules.proofs.laws.hit_tiles_advance.Goals as goal

pub returns : goal.returns
returns c = hit_advances
