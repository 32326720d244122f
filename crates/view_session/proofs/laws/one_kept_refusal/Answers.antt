use Rattle.view_session.proofs.KeptLaws.{one_kept_refusal}
use Rattle.view_session.proofs.laws.one_kept_refusal.Goals as goal

pub returns : goal.returns
returns c = one_kept_refusal c.reading_laws.ensures c.file_laws.ensures c.at_most_one_join_of_a_list.ensures
