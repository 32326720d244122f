-- What the tactics leave open of `first_dirty`.
use Rattle.tile_work.specs.WorkTable.{IsDirtyTile}
use Rattle.tile_work.proofs.Leasts.{least_of_all}
use Rattle.tile_work.proofs.work_table.WorkTable.first_dirty.Goals as goal

pub returns : goal.returns
returns c = least_of_all (IsDirtyTile c.args.self.now) _ c.next_dirty.ensures
