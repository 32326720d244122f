use Rattle.stroke_lattice.proofs.Joining.{longer}
use Rattle.stroke_lattice.proofs.laws.compatible_lists_have_a_join.Goals as goal

pub returns : goal.returns
returns c = longer
