use Rattle.reset_core.proofs.Bands.Settling.{none_swept_in_bands, worked_off_swept}
use Rattle.reset_core.proofs.replica.Core.sweep_alone.Goals as goal

pub returns-clause-swept : goal.returns-clause-swept
returns-clause-swept c =
    worked_off_swept c.args.jobs c.args.self.now c.sweep_within.new.self c.args.swept.now c.sweep_within.new.swept
    c.in-Ok.done c.in-Ok.ensures.works

pub returns-in_default-clause-swept : goal.returns-in_default-clause-swept
returns-in_default-clause-swept c =
    rw (c.in_default.ensures.err.0, c.in_default.ensures.err.1) (none_swept_in_bands c.args.self.now c.args.swept.now
    c.requires.left)
