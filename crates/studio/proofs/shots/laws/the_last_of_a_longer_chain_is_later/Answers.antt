use Rattle.studio.proofs.Chains.{later_leads_on}
use Rattle.studio.proofs.shots.laws.the_last_of_a_longer_chain_is_later.Goals as goal

pub returns : goal.returns
returns c = later_leads_on
