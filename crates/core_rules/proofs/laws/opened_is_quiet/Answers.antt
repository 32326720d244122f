-- The law `opened_is_quiet`, by its lemma.
use Rattle.core_rules.proofs.Opening.{opened_is_quiet}
use Rattle.core_rules.proofs.laws.opened_is_quiet.Goals as goal

pub returns : goal.returns
returns c = opened_is_quiet
