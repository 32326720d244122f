-- The law `taken_deltas_are_joined`, by its lemmas.
use Rattle.core_rules.proofs.Deltas.{taken_deltas_are_joined, taken_deltas_keep_the_mask}
use Rattle.core_rules.proofs.laws.taken_deltas_are_joined.Goals as goal

pub returns-clause-state : goal.returns-clause-state
returns-clause-state c = taken_deltas_are_joined

pub returns-clause-mask : goal.returns-clause-mask
returns-clause-mask c = taken_deltas_keep_the_mask
