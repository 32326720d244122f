-- What the loop of `is_light` keeps.
use Rattle.tile_work.specs.Marks.{SomeIn, IsLight}
use Rattle.tile_work.proofs.HittingRects.{rows_upto}
use Rattle.tile_work.proofs.hits.links.Links.is_light.Given as goal

-- none in the rows so far
abbrev pub invariant-loop-i : goal.invariant-loop-i
invariant-loop-i l = SomeIn (rows_upto l.rect l.i) (IsLight l.self.image.now) → ⊥
