use Rattle.std.proofs.Common.{take}
use Rattle.marker_tiles.specs.Painting.{IsPaintedBy}
use Rattle.marker_tiles.proofs.Painted.{covered_in}
use Rattle.marker_tiles.proofs.paint.paint_within.Given as goal

-- the stroke is painted within the windows so far
abbrev pub invariant-loop-window : goal.invariant-loop-window
invariant-loop-window l =
    IsPaintedBy (covered_in (take l.window-index l.windows) l.stroke) l.brush l.mask l.fn.marker l.marker
