use Rattle.std.proofs.Common.{◌+◌, length}
use Rattle.raster_sweeps.specs.{Flood.missing, Flooding.Floods, Flooding.seeds_of}
use Rattle.raster_sweeps.proofs.thresholds.flood_level.Given as goal

abbrev pub invariant-loop-pixel : goal.invariant-loop-pixel
invariant-loop-pixel l = Floods l.source l.level (seeds_of l.source) l.image l.waiting.items

abbrev pub decreases-loop-pixel : goal.decreases-loop-pixel
decreases-loop-pixel l = length l.waiting.items + missing l.level l.image.cells
