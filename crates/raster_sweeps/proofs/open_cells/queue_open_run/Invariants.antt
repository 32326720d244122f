use Rattle.std.proofs.Common.{true, ◌≡◌, ◌≤◌}
use Rattle.raster_sweeps.specs.{Growth.rows_of, OpenCells.HaveOpenJoined}
use Rattle.row_scans.specs.Rows.{IsAmong}
use Rattle.raster_sweeps.proofs.open_cells.queue_open_run.Given as goal

abbrev pub invariant-loop-cell : goal.invariant-loop-cell
invariant-loop-cell l = record {
  joined :
      HaveOpenJoined l.conn l.rect (rows_of l.size l.mask) (rows_of l.size l.image) (IsAmong l.first l.cell) true
      l.fn.trail.cells l.trail.cells;
  from : l.first ≤ l.cell;
  width : l.trail.width ≡ l.fn.trail.width;
}
