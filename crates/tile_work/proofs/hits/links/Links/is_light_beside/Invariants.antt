-- What the loop of `is_light_beside` keeps.
use Rattle.tile_work.specs.Marks.{SomeIn, IsLightBeside}
use Rattle.tile_work.proofs.HittingRects.{rows_upto}
use Rattle.tile_work.proofs.hits.links.Links.is_light_beside.Given as goal

-- none in the rows so far
abbrev pub invariant-loop-i : goal.invariant-loop-i
invariant-loop-i l = SomeIn (rows_upto l.near l.i) (IsLightBeside l.self.image.now l.self.conn l.p) → ⊥
