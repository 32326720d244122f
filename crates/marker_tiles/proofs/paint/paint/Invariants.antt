use Rattle.std.proofs.Common.{take}
use Rattle.stroke_core.specs.Spans.{spans_of}
use Rattle.marker_tiles.specs.Painting.{IsPaintedBy}
use Rattle.marker_tiles.proofs.Spans.{span_of_some}
use Rattle.marker_tiles.proofs.paint.paint.Given as goal

-- the spans so far are painted
abbrev pub invariant-loop-i : goal.invariant-loop-i
invariant-loop-i l =
    IsPaintedBy (span_of_some l.window (take l.i (spans_of l.stroke))) l.brush l.mask l.fn.marker l.marker
