-- What the tactics leave open of `add_dirty`.
use Rattle.std.proofs.Common.{sym, ◌∙◌}
use Rattle.tile_work.specs.{TileSet.Has, WorkTable.IsDirtyTile}
use Rattle.tile_work.proofs.{TileSetUnions.HasGained-like, WorkTables.dirty_of_table, WorkTables.dirty_set_count}
use Rattle.tile_work.proofs.work_table.WorkTable.add_dirty.Goals as goal

pub insert_all-requires : goal.insert_all-requires
insert_all-requires c = dirty_set_count c.self.inside c.args.self.now c.self.view_is c.self.invariant ∙ sym c.requires

pub returns : goal.returns
returns c =
    HasGained-like c.args.set.now c.insert_all.new.self (Has c.self.inside.dirty) (IsDirtyTile c.args.self.now)
    (dirty_of_table c.self.inside c.args.self.now c.self.view_is c.self.invariant) c.insert_all.ensures
