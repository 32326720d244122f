-- What the tactics leave open of `next_dirty`.
use Rattle.tile_work.proofs.WorkTables.{next_dirty_of_table}
use Rattle.tile_work.proofs.work_table.WorkTable.next_dirty.Goals as goal

pub returns : goal.returns
returns c =
    next_dirty_of_table c.self.inside c.args.self.now c.self.view_is c.self.invariant c.args.from _ c.first_from.ensures
