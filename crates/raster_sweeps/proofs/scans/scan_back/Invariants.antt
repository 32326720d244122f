use Rattle.std.proofs.Common.{IsTrue}
use Rattle.raster_sweeps.specs.{Growth.IsGrown, Growth.AreInside, Growth.WaitFrom, Growth.rows_of, RowPairs.NoneOpen}
use Rattle.raster_sweeps.proofs.Scanning.{IsNotUpFrom}
use Rattle.raster_sweeps.proofs.scans.scan_back.Given as goal

abbrev pub invariant-loop-y : goal.invariant-loop-y
invariant-loop-y l = record {
  grown : IsGrown l.conn l.rect (rows_of l.size l.mask) (rows_of l.size l.fn.image) (rows_of l.size l.image);
  inside : AreInside l.rect l.size.w l.waiting;
  closed : NoneOpen l.conn l.rect (rows_of l.size l.mask) (rows_of l.size l.image) (IsNotUpFrom l.y);
  waits : IsTrue l.all → WaitFrom l.conn l.rect (rows_of l.size l.mask) (rows_of l.size l.image) l.y l.waiting;
}
