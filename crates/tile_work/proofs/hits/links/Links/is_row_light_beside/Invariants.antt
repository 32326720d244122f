-- What the loop of `is_row_light_beside` keeps.
use Rattle.tile_work.specs.Marks.{SomeIn, IsLightBeside, pixels_upto}
use Rattle.tile_work.proofs.hits.links.Links.is_row_light_beside.Given as goal

-- none of the pixels so far
abbrev pub invariant-loop-i : goal.invariant-loop-i
invariant-loop-i l = SomeIn (pixels_upto l.x l.y l.i) (IsLightBeside l.self.image.now l.self.conn l.p) → ⊥
