use Rattle.stroke_lattice.proofs.Joining.{to_left, to_right}
use Rattle.stroke_lattice.proofs.laws.joining_is_associative.Goals as goal

pub returns : goal.returns
returns c = λ a b c join. (to_right a b c join, to_left a b c join)
