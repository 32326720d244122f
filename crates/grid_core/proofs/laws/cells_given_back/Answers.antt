use Rattle.grid_core.proofs.GivenBack.{cells_given_back}
use Rattle.grid_core.proofs.laws.cells_given_back.Goals as goal

pub returns : goal.returns
returns c = cells_given_back
