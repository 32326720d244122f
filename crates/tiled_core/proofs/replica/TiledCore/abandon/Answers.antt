-- What the tactics leave open of `abandon`.
use Rattle.std.proofs.Common.{refl, ◌∙◌}
use Rattle.reset_core.proofs.Sweeping.{abandoned_is_stored}
use Rattle.tiled_core.specs.Stored.{parts_of}
use Rattle.tiled_core.proofs.replica.TiledCore.abandon.Goals as goal

pub invariant_of-self : goal.invariant_of-self
invariant_of-self c = record {
  stored =
      abandoned_is_stored c.abandon_keeps_sound.ensures (parts_of c.self.inside) c.args.self.now c.args.ticket
      c.abandon.new.self c.self.view_is c.self.invariant.stored (c.if-was_out.ensures.0 refl) c.abandon.ensures;
  tiling = c.self.invariant.tiling;
  beside = c.leave.ensures ∙ c.self.invariant.beside;
  room = c.self.invariant.room;
  mask_rims = c.self.invariant.mask_rims;
  limits_room = c.self.invariant.limits_room;
  states = c.self.invariant.states;
}
