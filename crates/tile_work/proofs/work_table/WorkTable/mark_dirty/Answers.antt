-- What the tactics leave open of `mark_dirty`.
use Rattle.std.proofs.Common.{true, refl}
use Rattle.tile_work.proofs.WorkTables.{IsRowAt, in_dirty, row_changed, row_bounded}
use Rattle.tile_work.proofs.WorkTables.{out_stays, waiting_stays, stays_in_step}
use Rattle.tile_work.proofs.work_table.WorkTable.mark_dirty.Goals.{After-insert}
use Rattle.tile_work.proofs.work_table.WorkTable.mark_dirty.Goals as goal

row_at : (c : After-insert) → IsRowAt c.self.inside c.args.self.now c.args.tile c.index_mut.result.now
row_at c = record {
  view_is = c.self.view_is;
  in_table = c.requires;
  row_is = c.index_mut.ensures.value;
  in_step = c.self.invariant;
}

pub invariant_of-self : goal.invariant_of-self
invariant_of-self c =
    let at = row_at c in
    stays_in_step at _ (row_bounded at) _ _ _ c.insert.ensures (out_stays at) (waiting_stays at)

pub returns : goal.returns
returns c = row_changed (row_at c) (λ w. record w { dirty = true }) _ refl

pub insert-requires : goal.insert-requires
insert-requires c = in_dirty c.self.invariant c.self.view_is c.requires
