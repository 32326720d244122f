use Rattle.raster_sweeps.specs.{Growth.rows_of, RowPairs.IsOpenCell}
use Rattle.std.proofs.Common.{true}
use Rattle.row_scans.specs.Rows.{HaveJoined}
use Rattle.raster_sweeps.proofs.OpenRows.{IsUpperAbove}
use Rattle.raster_sweeps.proofs.open_pairs.queue_open_pairs.Given as goal

abbrev pub invariant-loop-y : goal.invariant-loop-y
invariant-loop-y l =
    HaveJoined (IsOpenCell l.conn l.rect (rows_of l.size l.mask) (rows_of l.size l.image) (IsUpperAbove l.y)) true
    l.fn.waiting l.waiting
