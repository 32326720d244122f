-- What the tactics leave open of `next_ready`.
use Rattle.tile_work.proofs.WorkTables.{next_ready_of_table, out_count}
use Rattle.tile_work.proofs.work_table.WorkTable.next_ready.Goals as goal

pub first_without-requires : goal.first_without-requires
first_without-requires c = out_count c.self.inside c.args.self.now c.self.view_is c.self.invariant

pub returns : goal.returns
returns c =
    next_ready_of_table c.self.inside c.args.self.now c.self.view_is c.self.invariant c.args.from _
    c.first_without.ensures
