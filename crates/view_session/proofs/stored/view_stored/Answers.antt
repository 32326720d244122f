use Rattle.view_session.proofs.stored.view_stored.Goals as goal

pub returns : goal.returns
returns g c = c.view_stored_by.ensures
