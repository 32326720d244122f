-- What the loop of `bounds_above` keeps.
use Rattle.reset_core.specs.Parts.{AreBoundsAbove}
use Rattle.reset_core.proofs.parts.bounds_above.Given as goal

-- the bounds have what is above in the rows so far
abbrev pub invariant-loop-y : goal.invariant-loop-y
invariant-loop-y l = AreBoundsAbove l.rect l.y l.whole l.piece l.bounds
