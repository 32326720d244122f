use Rattle.grid_core.proofs.Images.{one_reconstruction}
use Rattle.grid_core.proofs.laws.at_most_one_reconstruction.Goals as goal

pub returns : goal.returns
returns c = one_reconstruction
