use Rattle.studio.proofs.keeper.showing.eye_of.Goals as goal

pub returns-in-Ok-clause-eye : goal.returns-in-Ok-clause-eye
returns-in-Ok-clause-eye c =
    let made = c.in-Ok.ensures in record { seen = made.seen; learnt = made.learnt; studio = made.eye_studio }
