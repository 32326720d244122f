use Rattle.std.proofs.Common.{◌-◌}
use Rattle.reset_core.specs.Bands.{IsSomewhere}
use Rattle.reset_core.specs.BandParts.{AreTilesSwept, strip_of}
use Rattle.reset_core.proofs.replica.bands.Band.sweep.Given as goal

abbrev pub invariant-loop-self : goal.invariant-loop-self
invariant-loop-self l = record {
  swept : AreTilesSwept l.whole l.above l.mask l.fn.self l.fn.image l.self l.image;
  somewhere : IsSomewhere l.whole l.above (strip_of l.self l.mask l.image);
}

abbrev pub decreases-loop-self : goal.decreases-loop-self
decreases-loop-self l = l.self.limit - l.self.jobs
