-- What the tactics leave open of `take`.
use Rattle.std.proofs.Common.{false, refl, Some}
use Rattle.tile_work.proofs.WorkTables.{IsRowAt, in_out, in_dirty, row_changed}
use Rattle.tile_work.proofs.WorkTables.{row_bounded, waiting_stays, stays_in_step}
use Rattle.tile_work.proofs.work_table.WorkTable.take.Goals.{After-insert}
use Rattle.tile_work.proofs.work_table.WorkTable.take.Goals as goal

row_at : (c : After-insert) → IsRowAt c.self.inside c.args.self.now c.args.tile c.index_mut-row.result.now
row_at c = record {
  view_is = c.self.view_is;
  in_table = c.requires;
  row_is = c.index_mut-row.ensures.value;
  in_step = c.self.invariant;
}

pub invariant_of-self : goal.invariant_of-self
invariant_of-self c =
    let at = row_at c in
    stays_in_step at _ (row_bounded at) _ _ _ c.remove.ensures c.insert.ensures (waiting_stays at)

pub returns : goal.returns
returns c = row_changed (row_at c) (λ w. record w { dirty = false; out = Some c.args.serial }) _ refl

pub remove-requires : goal.remove-requires
remove-requires c = in_dirty c.self.invariant c.self.view_is c.requires

pub insert-requires : goal.insert-requires
insert-requires c = in_out c.self.invariant c.self.view_is c.requires
