-- What the tactics leave open of `mask_of`. The masks alone change.
use Rattle.std.proofs.Common.{arith}
use Rattle.std.proofs.lemmas.Grind.{common_steps}
use Rattle.tiled_core.proofs.replica.TiledCore.mask_of.Goals as goal

pub invariant_of-self : goal.invariant_of-self
invariant_of-self c = record {
  stored = record {
    sound = c.self.invariant.stored.sound;
    bounded = c.self.invariant.stored.bounded;
    marks = c.self.invariant.stored.marks;
    masks = grind (arith, common_steps);
    no_marks = c.self.invariant.stored.no_marks;
    none_queued = c.self.invariant.stored.none_queued;
  };
  tiling = c.self.invariant.tiling;
  beside = c.self.invariant.beside;
  room = c.self.invariant.room;
  mask_rims = c.self.invariant.mask_rims;
  limits_room = c.self.invariant.limits_room;
  states = c.self.invariant.states;
}
