use Rattle.view_session.proofs.KeptLaws.{no_kept_view_of_a_refused_input}
use Rattle.view_session.proofs.laws.no_kept_view_of_a_refused_input.Goals as goal

pub returns : goal.returns
returns c = no_kept_view_of_a_refused_input c.reading_laws.ensures c.file_laws.ensures
