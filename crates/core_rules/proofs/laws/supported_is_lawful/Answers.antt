-- The law `supported_is_lawful`, by its lemma.
use Rattle.core_rules.proofs.Supporting.{supported_is_lawful}
use Rattle.core_rules.proofs.laws.supported_is_lawful.Goals as goal

pub returns : goal.returns
returns c = supported_is_lawful
