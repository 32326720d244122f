use Rattle.std.proofs.Common.{◌+◌, length}
use Rattle.raster_sweeps.specs.Flood.{missing}
use Rattle.raster_sweeps.proofs.Flood.Spreading.{IsSpreading}
use Rattle.raster_sweeps.proofs.thresholds.spread.Given as goal

abbrev pub invariant-loop-beside : goal.invariant-loop-beside
invariant-loop-beside l =
    IsSpreading l.source.conn l.source.mask.now l.source.marker.now l.level l.fn.pixel l.beside-items
    (length l.fn.waiting.items + missing l.level l.fn.image.cells) l.beside-index l.image l.waiting.items
