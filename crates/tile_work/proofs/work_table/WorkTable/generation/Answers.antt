-- What the tactics leave open of `generation`.
use Rattle.tile_work.proofs.WorkTables.{IsRowAt, row_bounded}
use Rattle.tile_work.proofs.work_table.WorkTable.generation.Goals.{After-index}
use Rattle.tile_work.proofs.work_table.WorkTable.generation.Goals as goal

row_at : (c : After-index) → IsRowAt c.self.inside c.args.self.now c.args.tile c.index.result.now
row_at c = record {
  view_is = c.self.view_is;
  in_table = c.requires;
  row_is = c.index.ensures;
  in_step = c.self.invariant;
}

pub returns-clause-bounded : goal.returns-clause-bounded
returns-clause-bounded c = row_bounded (row_at c)
