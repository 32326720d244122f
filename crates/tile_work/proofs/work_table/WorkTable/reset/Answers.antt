-- What the tactics leave open of `reset`.
use Rattle.std.proofs.Common.{◌<◌, refl, sym, subst, arith}
use Rattle.tile_generations.specs.Generations.{max_generation}
use Rattle.border_queues.specs.TileWork.{TileWork, reset_work}
use Rattle.tile_work.proofs.WorkTables.{IsRowAt, in_out, in_dirty, work_is, row_changed, waiting_stays, stays_in_step}
use Rattle.tile_work.proofs.work_table.WorkTable.reset.Goals.{After-index_mut-row}
use Rattle.tile_work.proofs.work_table.WorkTable.reset.Goals as goal

row_at : (c : After-index_mut-row) → IsRowAt c.self.inside c.args.self.now c.args.tile c.index_mut-row.result.now
row_at c = record {
  view_is = c.self.view_is;
  in_table = c.requires.tile;
  row_is = c.index_mut-row.ensures.value;
  in_step = c.self.invariant;
}

unspent : (c : After-index_mut-row) → c.index_mut-row.result.now.generation < max_generation
unspent c = subst (λ (w : TileWork). w.generation < max_generation) (sym (work_is (row_at c))) c.requires.unspent

pub overflow_add-row : goal.overflow_add-row
overflow_add-row c = omega (arith, unspent c)

pub invariant_of-self : goal.invariant_of-self
invariant_of-self c =
    let here = (goal.at.invariant_of-self c).After-index_mut-row in
    let at = row_at here in
    stays_in_step at _ (omega (arith, unspent here)) _ _ _ c.insert.ensures c.remove.ensures (waiting_stays at)

pub returns : goal.returns
returns c = row_changed (row_at (goal.at.returns c).After-index_mut-row) reset_work _ refl

pub insert-requires : goal.insert-requires
insert-requires c = in_dirty c.self.invariant c.self.view_is c.requires.tile

pub remove-requires : goal.remove-requires
remove-requires c = in_out c.self.invariant c.self.view_is c.requires.tile
