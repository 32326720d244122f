use Rattle.view_session.proofs.view.view_kept.Goals as goal

pub returns : goal.returns
returns g c = c.view_kept_by.ensures
