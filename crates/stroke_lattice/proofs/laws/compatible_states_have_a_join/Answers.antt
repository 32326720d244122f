use Rattle.stroke_lattice.proofs.{Joins.compatible_join, Joining.joined}
use Rattle.stroke_lattice.proofs.laws.compatible_states_have_a_join.Goals as goal

pub returns : goal.returns
returns c = λ a b. (joined a b, λ j. compatible_join a b j.0 j.1)
