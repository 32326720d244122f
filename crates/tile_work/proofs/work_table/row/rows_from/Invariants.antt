-- What the loop of `rows_from` keeps.
use Rattle.std.proofs.Common.{◌≡◌, replicate}
use Rattle.border_queues.specs.TileWork.{fresh}
use Rattle.tile_work.specs.WorkTable.{works_of}
use Rattle.tile_work.proofs.work_table.row.rows_from.Given as goal

abbrev pub invariant-loop-tile : goal.invariant-loop-tile
invariant-loop-tile l = works_of l.rows.items ≡ replicate l._tile (fresh l.first)
