use Rattle.view_session.proofs.derive.derive_run_by.Goals as goal

pub returns : goal.returns
returns g c = c.respond.ensures
