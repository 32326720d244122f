use Rattle.page_server.proofs.Views.{into_view, out_of_view}
use Rattle.page_server.proofs.opening.refused_as_a_view.Goals as goal

pub returns : goal.returns
returns c conn old file e = (into_view conn old file e, out_of_view c.one_meaning.ensures conn old file e)
