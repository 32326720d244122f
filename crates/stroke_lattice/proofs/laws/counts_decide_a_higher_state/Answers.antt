use Rattle.stroke_lattice.proofs.Counts.{counted}
use Rattle.stroke_lattice.proofs.laws.counts_decide_a_higher_state.Goals as goal

pub returns : goal.returns
returns c = counted
