use Rattle.std.proofs.Common.{ℕ, ◌<◌, ◌≤◌, min, get_or}
use Rattle.raster_sweeps.proofs.open_cells.can_rise_in.Given as goal

abbrev pub invariant-loop-cell : goal.invariant-loop-cell
invariant-loop-cell l =
    (k : ℕ) → l.fn.span.first ≤ k → k < l.cell → min l.level (get_or l.mask k 0) ≤ get_or l.cells k 0
