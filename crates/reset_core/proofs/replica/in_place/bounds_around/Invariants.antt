-- What the loop of `bounds_around` keeps.
use Rattle.std.proofs.Common.{take}
use Rattle.reset_core.specs.Telling.{LieWithin}
use Rattle.reset_core.proofs.replica.in_place.bounds_around.Given as goal

-- the pixels of the hints so far lie within the bounds
abbrev pub invariant-loop-hint : goal.invariant-loop-hint
invariant-loop-hint l = LieWithin l.near (take l.hint-index l.hints)
