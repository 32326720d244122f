use Rattle.stroke_lattice.proofs.Joining.{idempotent}
use Rattle.stroke_lattice.proofs.laws.joining_is_idempotent.Goals as goal

pub returns : goal.returns
returns c = idempotent
