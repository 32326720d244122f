-- The law `swept_in_place_is_worked_off`, by its lemma.
use Rattle.core_rules.proofs.InPlaceSweeps.{in_place_is_worked_off}
use Rattle.core_rules.proofs.laws.swept_in_place_is_worked_off.Goals as goal

pub returns : goal.returns
returns c = in_place_is_worked_off
