-- The law `accepted_are_edits`, by its lemma.
use Rattle.core_rules.proofs.Schedules.{accepted_are_edits}
use Rattle.core_rules.proofs.laws.accepted_are_edits.Goals as goal

pub returns : goal.returns
returns c = accepted_are_edits
