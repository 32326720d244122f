use Rattle.view_session.proofs.view.view_from.Goals as goal

pub returns : goal.returns
returns g c = c.respond.ensures
