use Rattle.stroke_lattice.proofs.Joining.{empty_list}
use Rattle.stroke_lattice.proofs.laws.join_of_an_empty_list.Goals as goal

pub returns : goal.returns
returns c = empty_list
