use Rattle.std.proofs.Common.{◌≡◌, ◌+◌, length}
use Rattle.grid_core.specs.{Bounds.LieIn, Raster.headroom}
use Rattle.raster_sweeps.specs.Growth.{AllWait, AreInside, IsGrown, rows_of}
use Rattle.raster_sweeps.proofs.OpenBounds.{RiseOrWait}
use Rattle.raster_sweeps.proofs.raising.drain_within.Given as goal

abbrev pub invariant-loop-pixel : goal.invariant-loop-pixel
invariant-loop-pixel l = record {
  grown : IsGrown l.conn l.rect (rows_of l.size l.mask) (rows_of l.size l.initial.image) (rows_of l.size l.image);
  width : l.trail.width ≡ l.size.w;
  inside : AreInside l.rect l.size.w l.trail.cells;
  waits : AllWait l.conn l.rect (rows_of l.size l.mask) (rows_of l.size l.image) l.trail.cells;
  rises : RiseOrWait l.rect (rows_of l.size l.initial.image) (rows_of l.size l.image) l.fn.bounds l.trail.cells l.risen;
  lie : LieIn l.risen l.rect;
}

abbrev pub decreases-loop-pixel : goal.decreases-loop-pixel
decreases-loop-pixel l = length l.trail.cells + headroom l.image
