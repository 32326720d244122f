-- What the loop of `hand_over_all` keeps.
use Rattle.std.proofs.Common.{take, flat_map}
use Rattle.reset_core.specs.{InPlace.BoundsFollow, Telling.hints_in, Telling.AreHandedOver, Telling.both_on}
use Rattle.reset_core.proofs.replica.in_place.hand_over_all.Given as goal

-- the hints for the tiles so far have been handed over, and the bounds have followed
abbrev pub invariant-loop-tile : goal.invariant-loop-tile
invariant-loop-tile l = record {
  handed : AreHandedOver l.tiling (flat_map (hints_in l.tiling l.hints) (take l.tile-index l.tiles))
      (both_on l.tiling l.initial.image l.initial.work) (both_on l.tiling l.image l.work);
  bounds : BoundsFollow l.tiling l.initial.image l.image l.initial.bounds l.bounds;
}
