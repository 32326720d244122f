use Rattle.grid_core.proofs.Around.{around_are_neighbours, neighbours_are_around}
use Rattle.grid_core.proofs.neighbourhood.neighbours.Goals as goal

pub returns-clause-members : goal.returns-clause-members
returns-clause-members c =
    let rows = c.rows.ensures in
    let p = c.args.p in
    λ q. rw rows (
      λ found. around_are_neighbours c.args.conn c.args.w c.args.h p q c.requires found,
      λ (beside, inside). neighbours_are_around c.args.conn c.args.w c.args.h p q beside inside,
    )
