use Rattle.stroke_lattice.proofs.Joining.{swapped}
use Rattle.stroke_lattice.proofs.laws.joining_is_commutative.Goals as goal

pub returns : goal.returns
returns c = λ a b join. (swapped a b join, swapped b a join)
