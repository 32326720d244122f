-- What the loop of `raise_stroke` keeps.
use Rattle.std.proofs.Common.{take}
use Rattle.stroke_core.specs.Spans.{spans_of}
use Rattle.tile_work.specs.Renewing.{AreRisesWithin, IsRaisedWhere}
use Rattle.tile_work.proofs.RenewingStrokes.{some_has}
use Rattle.tile_work.proofs.renewing.raise.raise_stroke.Given as goal

-- the spans so far are raised
abbrev pub invariant-loop-i : goal.invariant-loop-i
invariant-loop-i l =
    IsRaisedWhere l.tiling (some_has (take l.i (spans_of l.stroke))) l.marker l.fn.image l.image l.fn.work l.work
    × AreRisesWithin l.tiling l.fn.image l.image l.fn.bounds l.bounds
