use Rattle.grid_core.proofs.Around.{around_are_neighbours, neighbours_are_around, around_in_order}
use Rattle.grid_core.proofs.laws.neighbours_by_rows.Goals as goal

pub returns : goal.returns
returns c = λ conn width height p inside. (
  λ q. (
    λ found. around_are_neighbours conn width height p q inside found,
    λ (beside, within). neighbours_are_around conn width height p q beside within,
  ),
  around_in_order conn width height p,
)
