-- What the tactics leave open of `next_ready_outside`.
use Rattle.std.proofs.Common.{sym, ◌∙◌}
use Rattle.tile_work.proofs.WorkTables.{next_ready_outside_of_table, dirty_set_count, out_count}
use Rattle.tile_work.proofs.work_table.WorkTable.next_ready_outside.Goals as goal

pub first_without_both-requires-clause-other : goal.first_without_both-requires-clause-other
first_without_both-requires-clause-other c =
    out_count c.self.inside c.args.self.now c.self.view_is c.self.invariant

pub first_without_both-requires-clause-third : goal.first_without_both-requires-clause-third
first_without_both-requires-clause-third c =
    c.requires ∙ sym (dirty_set_count c.self.inside c.args.self.now c.self.view_is c.self.invariant)

pub returns : goal.returns
returns c =
    next_ready_outside_of_table c.self.inside c.args.self.now c.self.view_is c.self.invariant c.args.from _
    c.args.set.now c.first_without_both.ensures
