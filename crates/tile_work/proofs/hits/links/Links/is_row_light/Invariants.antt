-- What the loop of `is_row_light` keeps.
use Rattle.tile_work.specs.Marks.{SomeIn, IsLight, pixels_upto}
use Rattle.tile_work.proofs.hits.links.Links.is_row_light.Given as goal

-- none of the pixels so far
abbrev pub invariant-loop-value : goal.invariant-loop-value
invariant-loop-value l = SomeIn (pixels_upto l.x l.y l.value-index) (IsLight l.self.image.now) → ⊥
