-- What the loop of `is_row_linked` keeps.
use Rattle.tile_work.specs.Marks.{SomeIn, IsLinkedInto, pixels_upto}
use Rattle.tile_work.proofs.hits.links.Links.is_row_linked.Given as goal

-- none of the pixels so far
abbrev pub invariant-loop-i : goal.invariant-loop-i
invariant-loop-i l = SomeIn (pixels_upto l.x l.y l.i) (IsLinkedInto l.self.image.now l.self.conn l.other) → ⊥
