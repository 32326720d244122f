use Rattle.view_session.proofs.view.view_run.Goals as goal

pub returns : goal.returns
returns g c = c.view_run_by.ensures
