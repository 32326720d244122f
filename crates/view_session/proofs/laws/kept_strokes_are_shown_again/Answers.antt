use Rattle.view_session.proofs.KeptViews.{shown_again}
use Rattle.view_session.proofs.laws.kept_strokes_are_shown_again.Goals as goal

pub returns : goal.returns
returns c conn old input more state image new kept =
    shown_again c.pieces_join.ensures conn old input more state image new kept
