-- The law `merge_changes_dirty_tiles`, by its lemma.
use Rattle.core_rules.proofs.Leaving.{merge_shows}
use Rattle.core_rules.proofs.laws.merge_changes_dirty_tiles.Goals as goal

pub returns : goal.returns
returns c = merge_shows
