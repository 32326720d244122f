use Rattle.std.proofs.Common.{◌<◌, IsTrue}
use Rattle.grid_core.specs.declared.pixel.Pixel.{Pixel}
use Rattle.raster_sweeps.specs.Growth.{AreInside, WaitFrom, rows_of}
use Rattle.band_growth.specs.Bands.{AreGrown, IsOpenPair, all_of}
use Rattle.band_growth.proofs.seam.run_up.Given as goal

abbrev pub invariant-loop-y : goal.invariant-loop-y
invariant-loop-y l = record {
  grown : AreGrown l.limits.conn l.limits.size l.limits.mask.now l.fn.image l.image;
  inside : AreInside (all_of l.limits.size) l.limits.size.w l.waiting;
  waits : IsTrue l.room
      → WaitFrom l.limits.conn (all_of l.limits.size) (rows_of l.limits.size l.limits.mask.now)
      (rows_of l.limits.size l.image) l.y l.waiting;
  before : (p q : Pixel) → IsOpenPair l.limits.conn l.limits.size l.limits.mask.now l.image p q
      → p.y < l.cut → q.y < l.cut → p.y < l.y → q.y < l.y → ⊥;
}
