use Rattle.grid_core.proofs.Tilings.{neighbours_lie_in_touching_tiles}
use Rattle.grid_core.proofs.laws.neighbours_lie_in_touching_tiles.Goals as goal

pub returns : goal.returns
returns c = neighbours_lie_in_touching_tiles
