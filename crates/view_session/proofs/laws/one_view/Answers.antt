use Rattle.view_session.proofs.Shown.{one_view, one_state}
use Rattle.view_session.proofs.laws.one_view.Goals as goal

pub returns : goal.returns
returns c conn old s t input a b first second =
    let joins = c.at_most_one_join_of_a_list.ensures in (
      one_view c.image_laws.ensures c.reading_laws.ensures joins conn old s t input a b first second,
      one_state c.image_laws.ensures c.reading_laws.ensures joins conn old s t input a b first second,
    )
