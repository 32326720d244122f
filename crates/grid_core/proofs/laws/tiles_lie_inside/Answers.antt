use Rattle.grid_core.proofs.Tilings.{tiles_lie_inside}
use Rattle.grid_core.proofs.laws.tiles_lie_inside.Goals as goal

pub returns : goal.returns
returns c = tiles_lie_inside
