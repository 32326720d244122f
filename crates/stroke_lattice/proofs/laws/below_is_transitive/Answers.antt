use Rattle.stroke_lattice.proofs.Joins.{below_through}
use Rattle.stroke_lattice.proofs.laws.below_is_transitive.Goals as goal

pub returns : goal.returns
returns c = below_through
