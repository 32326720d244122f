-- The law `one_refusal`, by its lemma.
use Rattle.core_rules.proofs.Resets.{one_refusal}
use Rattle.core_rules.proofs.laws.one_refusal.Goals as goal

pub returns : goal.returns
returns c = one_refusal
