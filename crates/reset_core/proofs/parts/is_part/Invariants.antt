-- What the loop of `is_part` keeps.
use Rattle.std.proofs.Common.{◌≡◌}
use Rattle.grid_core.specs.{Raster.value_at, Rects.part}
use Rattle.reset_core.proofs.SweepingRows.{AreAlike}
use Rattle.reset_core.proofs.parts.is_part.Given as goal

-- the rows so far are equal
abbrev pub invariant-loop-y : goal.invariant-loop-y
invariant-loop-y l = AreAlike (λ a b. a ≡ b) l.rect.w (value_at l.piece) (part l.rect (value_at l.whole)) l.y
