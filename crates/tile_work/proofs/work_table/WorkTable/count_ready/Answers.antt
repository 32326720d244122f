-- What the tactics leave open of `count_ready`.
use Rattle.std.proofs.Common.{◌≤◌, sym, subst, ◌∙◌}
use Rattle.tile_work.proofs.WorkTables.{count_ready_of_table, dirty_set_count, out_count}
use Rattle.tile_work.proofs.work_table.WorkTable.count_ready.Goals as goal

pub count_without-requires-clause-count : goal.count_without-requires-clause-count
count_without-requires-clause-count c = out_count c.self.inside c.args.self.now c.self.view_is c.self.invariant

pub count_without-requires-clause-within : goal.count_without-requires-clause-within
count_without-requires-clause-within c =
    subst (λ n. c.args.to ≤ n) (sym (dirty_set_count c.self.inside c.args.self.now c.self.view_is c.self.invariant))
    c.requires

pub returns : goal.returns
returns c =
    c.count_without.ensures
    ∙ count_ready_of_table c.self.inside c.args.self.now c.self.view_is c.self.invariant c.args.from c.args.to
    c.requires
