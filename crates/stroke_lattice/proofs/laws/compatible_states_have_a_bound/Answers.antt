use Rattle.stroke_lattice.proofs.{Joins.compatible_below, Joining.joined}
use Rattle.stroke_lattice.proofs.laws.compatible_states_have_a_bound.Goals as goal

pub returns : goal.returns
returns c = λ a b. (
  λ compatible. let j = joined a b compatible in (j.0, j.1.first, j.1.second),
  λ bound. compatible_below a b bound.0 bound.1 bound.2,
)
