-- What the tactics leave open of `first_out`.
use Rattle.tile_work.specs.WorkTable.{HasJobOut}
use Rattle.tile_work.proofs.Leasts.{least_of_all}
use Rattle.tile_work.proofs.work_table.WorkTable.first_out.Goals as goal

pub returns : goal.returns
returns c = least_of_all (HasJobOut c.args.self.now) _ c.next_out.ensures
