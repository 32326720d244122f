use Rattle.grid_core.proofs.{Pixels.AreNeighbours-sym, Reach.reaches_by_step}
use Rattle.grid_core.proofs.laws.reach_beside.Goals as goal

pub returns : goal.returns
returns c = λ d mask marker p q k reach inside beside within.
    reaches_by_step d mask marker q p k inside (AreNeighbours-sym d.conn p q beside) within reach
