-- What the loop of `mark_losses` keeps.
use Rattle.tile_work.proofs.HittingSpans.{IsLosing}
use Rattle.tile_work.proofs.hits.losses.mark_losses.Given as goal

-- the tiles of the strokes under the tombstones so far are marked
abbrev pub invariant-loop-tag : goal.invariant-loop-tag
invariant-loop-tag l = IsLosing l.tiling l.state l.delta l.fn.marks l.fn.queue l.marks l.queue l.tag-iterator
