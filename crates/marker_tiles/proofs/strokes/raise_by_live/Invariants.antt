use Rattle.marker_tiles.proofs.Marking.{IsUnderWay}
use Rattle.marker_tiles.proofs.strokes.raise_by_live.Given as goal

-- the image is raised by the live strokes but for those that are left
abbrev pub invariant-loop-stroke : goal.invariant-loop-stroke
invariant-loop-stroke l = IsUnderWay l.state l.windows l.mask l.fn.image l.image l.stroke-iterator
