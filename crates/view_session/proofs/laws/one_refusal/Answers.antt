use Rattle.view_session.proofs.Refusals.{one_refusal}
use Rattle.view_session.proofs.laws.one_refusal.Goals as goal

pub returns : goal.returns
returns c = one_refusal c.reading_laws.ensures c.at_most_one_join_of_a_list.ensures
