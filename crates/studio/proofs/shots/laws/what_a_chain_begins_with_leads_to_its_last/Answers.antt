use Rattle.studio.proofs.Chains.{beginnings_lead_to_last}
use Rattle.studio.proofs.shots.laws.what_a_chain_begins_with_leads_to_its_last.Goals as goal

pub returns : goal.returns
returns c = beginnings_lead_to_last
