-- What the tactics leave open of `take`.
use Rattle.std.proofs.Common.{refl, arith, ◌∙◌}
use Rattle.reset_core.proofs.Sweeping.{taken_is_stored}
use Rattle.std.proofs.lemmas.Grind.{common_steps}
use Rattle.tiled_core.specs.Stored.{parts_of}
use Rattle.tiled_core.proofs.replica.TiledCore.take.Goals as goal

pub invariant_of-self : goal.invariant_of-self
invariant_of-self c = record {
  stored =
      taken_is_stored c.take_keeps_sound.ensures (parts_of c.self.inside) c.with_kept_block-job.new.self c.args.tile
      c.with_kept_block-job.result c.take.new.self c.self.view_is c.self.invariant.stored
      (rw (c.with_kept_block-job.ensures.same, c.next_job.ensures.same, c.mask_of.ensures.same)
      (c.if-not-is_ready.ensures.0 refl))
      (rw (c.with_kept_block-job.ensures.same, c.next_job.ensures.same, c.with_kept_block-job.ensures.job)
      c.in_ok-job.ensures.job) c.take.ensures;
  tiling = c.self.invariant.tiling;
  beside = c.enter.ensures ∙ c.self.invariant.beside;
  room = c.self.invariant.room;
  mask_rims = c.self.invariant.mask_rims;
  limits_room = c.self.invariant.limits_room;
  states = c.self.invariant.states;
}

pub next_job-requires-clause-mask : goal.next_job-requires-clause-mask
next_job-requires-clause-mask c = grind (arith, common_steps)

pub next_job-requires-clause-is_tile : goal.next_job-requires-clause-is_tile
next_job-requires-clause-is_tile c = grind (arith, common_steps)
