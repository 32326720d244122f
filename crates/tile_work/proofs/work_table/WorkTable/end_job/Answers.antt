-- What the tactics leave open of `end_job`.
use Rattle.std.proofs.Common.{refl, None}
use Rattle.tile_work.proofs.WorkTables.{IsRowAt, in_out, row_changed, row_bounded}
use Rattle.tile_work.proofs.WorkTables.{dirty_stays, waiting_stays, stays_in_step}
use Rattle.tile_work.proofs.work_table.WorkTable.end_job.Goals.{After-remove}
use Rattle.tile_work.proofs.work_table.WorkTable.end_job.Goals as goal

row_at : (c : After-remove) → IsRowAt c.self.inside c.args.self.now c.args.tile c.index_mut.result.now
row_at c = record {
  view_is = c.self.view_is;
  in_table = c.requires;
  row_is = c.index_mut.ensures.value;
  in_step = c.self.invariant;
}

pub invariant_of-self : goal.invariant_of-self
invariant_of-self c =
    let at = row_at c in
    stays_in_step at _ (row_bounded at) _ _ _ (dirty_stays at) c.remove.ensures (waiting_stays at)

pub returns : goal.returns
returns c = row_changed (row_at c) (λ w. record w { out = None }) _ refl

pub remove-requires : goal.remove-requires
remove-requires c = in_out c.self.invariant c.self.view_is c.requires
