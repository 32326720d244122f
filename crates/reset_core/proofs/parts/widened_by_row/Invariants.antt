-- What the loop of `widened_by_row` keeps.
use Rattle.reset_core.specs.Parts.{AreWidenedByRow}
use Rattle.reset_core.proofs.parts.widened_by_row.Given as goal

-- the bounds have what is above in the columns so far
abbrev pub invariant-loop-x : goal.invariant-loop-x
invariant-loop-x l = AreWidenedByRow l.rect l.y l.values l.limits l.x l.fn.before l.bounds
