use Rattle.view_session.proofs.KeptLaws.{one_kept_view, one_kept_file}
use Rattle.view_session.proofs.laws.one_kept_view.Goals as goal

pub returns : goal.returns
returns c conn old input a b m n first second =
    let joins = c.at_most_one_join_of_a_list.ensures in
    let files = c.file_laws.ensures in (
      one_kept_view c.image_laws.ensures c.reading_laws.ensures joins files conn old input a b m n first second,
      one_kept_file c.image_laws.ensures c.reading_laws.ensures joins files conn old input a b m n first second,
    )
