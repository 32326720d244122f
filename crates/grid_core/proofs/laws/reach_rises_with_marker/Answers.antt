use Rattle.grid_core.proofs.Reach.{reaches_rises}
use Rattle.grid_core.proofs.laws.reach_rises_with_marker.Goals as goal

pub returns : goal.returns
returns c = reaches_rises
