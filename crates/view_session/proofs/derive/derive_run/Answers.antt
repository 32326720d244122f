use Rattle.view_session.proofs.derive.derive_run.Goals as goal

pub returns : goal.returns
returns g c = c.derive_run_by.ensures
