use Rattle.view_session.proofs.Refusals.{no_view_of_a_refused_input}
use Rattle.view_session.proofs.laws.no_view_of_a_refused_input.Goals as goal

pub returns : goal.returns
returns c = no_view_of_a_refused_input c.reading_laws.ensures
