-- What the loop of `widened_by_line` keeps.
use Rattle.tiled_image.specs.Raising.{AreWidenedBy}
use Rattle.tiled_image.proofs.rims.raising.widened_by_line.Given as goal

-- the bounds have what is above at the places so far
abbrev pub invariant-loop-k : goal.invariant-loop-k
invariant-loop-k l = AreWidenedBy l.fn.strip l.values l.limits l.k l.fn.before l.bounds
