use Rattle.grid_core.specs.Path.{domain_of}
use Rattle.raster_sweeps.specs.Flood.{IsImageOn, IsLevelDone}
use Rattle.raster_sweeps.proofs.thresholds.slow.Given as goal

abbrev pub invariant-loop-done : goal.invariant-loop-done
invariant-loop-done l = record {
  sized : IsImageOn (domain_of l.mask l.fn.conn) l.image;
  done : IsLevelDone l.fn.conn l.mask l.marker l.done l.image;
}
