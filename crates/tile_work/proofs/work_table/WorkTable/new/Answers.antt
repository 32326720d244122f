-- What the tactics leave open of `new`.
use Rattle.tile_work.proofs.WorkTables.{fresh_in_step}
use Rattle.tile_work.proofs.work_table.WorkTable.new.Goals as goal

pub invariant_of-result : goal.invariant_of-result
invariant_of-result c =
    fresh_in_step _ c.args.count c.args.first c.in_ok-rows.ensures c.requires _ _ _ c.in_ok-dirty.ensures
    c.in_ok-out.ensures.0 c.in_ok-out.ensures.1
