use Rattle.std.proofs.Common.{◌≤◌, max}
use Rattle.marker_tiles.specs.Painting.{IsPaintedBy, in_window}
use Rattle.marker_tiles.proofs.many.fill.Given as goal

-- the rows so far are painted
abbrev pub invariant-loop-y : goal.invariant-loop-y
invariant-loop-y l =
    IsPaintedBy (in_window (record l.window { bottom = l.y })) l.brush l.mask l.fn.image l.image
    × (l.y ≤ max l.window.top l.window.bottom)
