-- The law `run_changes_few_tiles`, by its lemma.
use Rattle.core_rules.proofs.Leaving.{run_shows}
use Rattle.core_rules.proofs.laws.run_changes_few_tiles.Goals as goal

pub returns : goal.returns
returns c = run_shows c.edges_are_open.ensures
