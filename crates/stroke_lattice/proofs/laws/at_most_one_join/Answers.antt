use Rattle.stroke_lattice.proofs.Joins.{one_join}
use Rattle.stroke_lattice.proofs.laws.at_most_one_join.Goals as goal

pub returns : goal.returns
returns c = one_join
