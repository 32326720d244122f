-- What the loop of `hand_over_in` keeps.
use Rattle.std.proofs.Common.{take}
use Rattle.reset_core.specs.{InPlace.BoundsFollow, Telling.hints_in, Telling.AreHandedOver, Telling.both_on}
use Rattle.reset_core.proofs.replica.in_place.hand_over_in.Given as goal

-- the hints so far have been handed over, and the bounds have followed
abbrev pub invariant-loop-hint : goal.invariant-loop-hint
invariant-loop-hint l = record {
  handed : AreHandedOver l.tiling (hints_in l.tiling (take l.hint-index l.hints) l.tile)
      (both_on l.tiling l.initial.image l.initial.work) (both_on l.tiling l.image l.work);
  bounds : BoundsFollow l.tiling l.initial.image l.image l.initial.bounds l.bounds;
}
