use Rattle.std.proofs.Common.{◌-◌, IsTrue}
use Rattle.raster_sweeps.specs.{Growth.IsGrown, Growth.rows_of, RowPairs.IsDark, RowPairs.NoneOpen}
use Rattle.raster_sweeps.proofs.Scanning.{IsNotUpAbove}
use Rattle.raster_sweeps.proofs.scans.scan_down.Given as goal

abbrev pub invariant-loop-y : goal.invariant-loop-y
invariant-loop-y l = record {
  grown : IsGrown l.conn l.rect (rows_of l.size l.mask) (rows_of l.size l.fn.image) (rows_of l.size l.image);
  closed : NoneOpen l.conn l.rect (rows_of l.size l.mask) (rows_of l.size l.image) (IsNotUpAbove l.y);
  dark : IsTrue l.dark → IsDark l.rect (rows_of l.size l.image) (l.y - 1);
}
