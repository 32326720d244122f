use Rattle.std.proofs.Common.{◌≡◌, ◌+◌, ◌<◌, ◌≤◌, ◌⊎◌, length, ℕ, Contains, IsTrue}
use Rattle.grid_core.specs.Raster.{headroom}
use Rattle.raster_sweeps.specs.Spans.{AreQueued, InSpan, IsRaised}
use Rattle.raster_sweeps.proofs.Raised.{span_to}
use Rattle.raster_sweeps.proofs.raising.raise.Given as goal

abbrev pub invariant-loop-cell : goal.invariant-loop-cell
invariant-loop-cell l = record {
  raised : IsRaised (InSpan (span_to l.fn.span.first l.cell)) l.mask l.level l.initial.cells l.cells;
  inside : (i : ℕ) → Contains l.waiting i
      → Contains l.initial.waiting i ⊎ InSpan (span_to l.fn.span.first l.cell) i;
  queued : IsTrue l.room
      → AreQueued (InSpan (span_to l.fn.span.first l.cell)) l.mask l.level l.initial.cells
      l.initial.waiting l.waiting;
  count : IsTrue l.room → length l.initial.waiting ≤ length l.waiting;
  effort : IsTrue l.room
      → length l.waiting + headroom l.cells ≤ length l.initial.waiting + headroom l.initial.cells;
  fell : IsTrue l.room ⊎ (headroom l.cells < headroom l.initial.cells);
  ends : (l.cell ≡ l.fn.span.first) ⊎ (l.cell ≤ l.fn.span.end);
  kept : headroom l.cells ≤ headroom l.initial.cells;
}
