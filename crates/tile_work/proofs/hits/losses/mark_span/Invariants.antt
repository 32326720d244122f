-- What the loop of `mark_span` keeps.
use Rattle.std.proofs.Common.{◌-◌, ◌≤◌}
use Rattle.tile_work.specs.Marks.{Adds}
use Rattle.tile_work.proofs.HittingSpans.{HoldsUpto}
use Rattle.tile_work.proofs.hits.losses.mark_span.Given as goal

-- the tiles of the pixels so far are marked
abbrev pub invariant-loop-x : goal.invariant-loop-x
invariant-loop-x l = record {
  from : l.span.first ≤ l.x;
  adds : Adds (HoldsUpto l.tiling l.span l.x) l.fn.marks l.fn.queue l.marks l.queue;
}

abbrev pub decreases-loop-x : goal.decreases-loop-x
decreases-loop-x l = l.end - l.x
