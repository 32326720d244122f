use Rattle.std.proofs.Common.{ℕ, ◌<◌}
use Rattle.grid_core.specs.{Raster.value_at, Rects.domain_in, Rects.part}
use Rattle.raster_sweeps.specs.RowPairs.{IsRowClosed}
use Rattle.raster_sweeps.proofs.closed.is_closed.Given as goal

abbrev pub invariant-loop-y : goal.invariant-loop-y
invariant-loop-y l =
    (k : ℕ) → k < l.y
    → IsRowClosed (domain_in l.whole l.conn) (part l.whole (value_at l.mask)) (part l.whole (value_at l.image)) k
