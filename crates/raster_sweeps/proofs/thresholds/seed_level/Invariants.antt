use Rattle.raster_sweeps.specs.Flooding.{Floods}
use Rattle.raster_sweeps.proofs.thresholds.seed_level.Given as goal

abbrev pub invariant-loop-i : goal.invariant-loop-i
invariant-loop-i l = Floods l.source l.level l.i l.image l.waiting.items
