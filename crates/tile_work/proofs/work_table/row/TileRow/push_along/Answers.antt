-- What the tactics leave open of `push_along`.
use Rattle.tile_work.proofs.work_table.row.TileRow.push_along.Goals as goal

pub returns-clause-came : goal.returns-clause-came
returns-clause-came c = λ s inner outer telling. c.push_along.ensures.hints s inner outer telling.told
