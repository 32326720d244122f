use Rattle.view_session.proofs.view.view_run_by.Goals as goal

pub returns : goal.returns
returns g c = c.respond.ensures
