use Rattle.stroke_lattice.proofs.Joining.{decided}
use Rattle.stroke_lattice.proofs.laws.contents_decide_a_state.Goals as goal

pub returns : goal.returns
returns c = decided
