use Rattle.std.proofs.Common.{true, ◌≡◌}
use Rattle.raster_sweeps.specs.{Growth.rows_of, OpenCells.HaveOpenJoined}
use Rattle.raster_sweeps.proofs.OpenCells.{IsCellAbove}
use Rattle.raster_sweeps.proofs.open_cells.queue_open_cells.Given as goal

abbrev pub invariant-loop-y : goal.invariant-loop-y
invariant-loop-y l = record {
  joined :
      HaveOpenJoined l.conn l.rect (rows_of l.size l.mask) (rows_of l.size l.image) (IsCellAbove l.part l.size.w l.y)
      true l.fn.trail.cells l.trail.cells;
  width : l.trail.width ≡ l.fn.trail.width;
}
