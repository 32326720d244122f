-- What the tactics leave open of `first_waiting`.
use Rattle.tile_work.specs.WorkTable.{HasHintsAt}
use Rattle.tile_work.proofs.Leasts.{least_of_all}
use Rattle.tile_work.proofs.work_table.WorkTable.first_waiting.Goals as goal

pub returns : goal.returns
returns c = least_of_all (HasHintsAt c.args.self.now) _ c.next_waiting.ensures
