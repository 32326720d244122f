use Rattle.stroke_lattice.proofs.Joins.{list_join_is_least}
use Rattle.stroke_lattice.proofs.laws.join_of_a_list_is_least.Goals as goal

pub returns : goal.returns
returns c = list_join_is_least
