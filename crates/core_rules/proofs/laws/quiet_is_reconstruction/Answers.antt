-- The law `quiet_is_reconstruction`, by its lemma.
use Rattle.core_rules.proofs.Quiet.{quiet_is_reconstruction}
use Rattle.core_rules.proofs.laws.quiet_is_reconstruction.Goals as goal

pub returns : goal.returns
returns c = quiet_is_reconstruction
