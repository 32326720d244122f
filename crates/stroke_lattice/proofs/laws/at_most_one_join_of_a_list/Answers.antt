use Rattle.stroke_lattice.proofs.Joins.{one_list_join}
use Rattle.stroke_lattice.proofs.laws.at_most_one_join_of_a_list.Goals as goal

pub returns : goal.returns
returns c = one_list_join
