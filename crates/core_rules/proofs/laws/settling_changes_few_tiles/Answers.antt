-- The law `settling_changes_few_tiles`, by its lemmas.
use Rattle.core_rules.proofs.Leaving.{settling_shows, cut_short_shows}
use Rattle.core_rules.proofs.laws.settling_changes_few_tiles.Goals as goal

pub returns-clause-settling : goal.returns-clause-settling
returns-clause-settling c = settling_shows c.edges_are_open.ensures

pub returns-clause-cut_short : goal.returns-clause-cut_short
returns-clause-cut_short c = cut_short_shows c.edges_are_open.ensures
