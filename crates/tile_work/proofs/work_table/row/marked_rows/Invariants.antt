-- What the loop of `marked_rows` keeps.
use Rattle.std.proofs.Common.{◌≡◌, take}
use Rattle.tile_work.specs.WorkTable.{works_of}
use Rattle.tile_work.proofs.work_table.row.marked_rows.Given as goal

abbrev pub invariant-loop-row : goal.invariant-loop-row
invariant-loop-row l = works_of l.copies.items ≡ works_of (take l.row-index l.rows)
