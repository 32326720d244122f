-- What the loop of `are_rects_linked` keeps.
use Rattle.tile_work.specs.Marks.{SomeIn, IsLinkedInto}
use Rattle.tile_work.proofs.HittingRects.{rows_upto}
use Rattle.tile_work.proofs.hits.links.Links.are_rects_linked.Given as goal

-- none in the rows so far
abbrev pub invariant-loop-i : goal.invariant-loop-i
invariant-loop-i l = SomeIn (rows_upto l.near l.i) (IsLinkedInto l.self.image.now l.self.conn l.other) → ⊥
