-- What the loop of `raise_across` keeps.
use Rattle.std.proofs.Common.{◌≡◌, ◌-◌, ◌≤◌, ◌⊎◌}
use Rattle.stroke_core.specs.Spans.{span_has}
use Rattle.tile_work.specs.Renewing.{AreRisesWithin, IsRaisedWhere}
use Rattle.tile_work.proofs.RenewingStrokes.{part_of}
use Rattle.tile_work.proofs.renewing.raise.raise_across.Given as goal

-- the pieces so far are raised
abbrev pub invariant-loop-first : goal.invariant-loop-first
invariant-loop-first l =
    (l.fn.span.first ≤ l.first) × ((l.first ≤ l.fn.span.end) ⊎ (l.first ≡ l.fn.span.first))
    × IsRaisedWhere l.tiling (span_has (part_of l.fn.span l.fn.span.first l.first)) l.marker l.fn.image l.image
    l.fn.work l.work × AreRisesWithin l.tiling l.fn.image l.image l.fn.bounds l.bounds

-- the columns that are left
abbrev pub decreases-loop-first : goal.decreases-loop-first
decreases-loop-first l = l.fn.span.end - l.first
