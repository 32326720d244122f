-- What the loop of `mark_stroke` keeps.
use Rattle.tile_work.specs.Marks.{Adds}
use Rattle.tile_work.proofs.HittingSpans.{HoldsSpans}
use Rattle.tile_work.proofs.hits.losses.mark_stroke.Given as goal

-- the tiles of the spans so far are marked
abbrev pub invariant-loop-i : goal.invariant-loop-i
invariant-loop-i l = Adds (HoldsSpans l.tiling l.stroke l.i) l.fn.marks l.fn.queue l.marks l.queue
