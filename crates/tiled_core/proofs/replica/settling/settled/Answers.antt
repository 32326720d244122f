-- What the tactics leave open of `settled`.
use Rattle.std.proofs.Common.{subst, sym, ◌∙◌}
use Rattle.stroke_lattice.specs.State.{State}
use Rattle.core_rules.specs.Work.{Core}
use Rattle.tiled_image.specs.Settling.{HasSettled, core_with, parts_with}
use Rattle.tiled_image.proofs.SettledRows.{keeps, tiling_stays}
use Rattle.tiled_core.specs.{SharedStates.AreStates, Stored.parts_of}
use Rattle.tiled_core.proofs.replica.settling.settled.Goals as goal

pub invariant_of-settled : goal.invariant_of-settled
invariant_of-settled g c =
    let was = c.core.invariant in
    let done = c.settle_in_bands-parts in
    let old = parts_of c.core.inside in
    let new = parts_with done.new.self.image done.result.0 in
    let same = tiling_stays old was.stored new done.ensures.stored done.ensures.settled.worked_on in
    let kept = keeps old was.stored new done.ensures.stored done.ensures.settled.worked_on in
    record {
      stored = done.ensures.stored;
      tiling = done.ensures.tiling ∙ was.tiling ∙ sym same;
      beside = c.forget.ensures ∙ rw same was.beside;
      room = rw same was.room;
      mask_rims = rw (same, kept.mask) was.mask_rims;
      limits_room = rw same was.limits_room;
      states = subst (λ (s : State). AreStates s c.core.inside.states) (sym kept.state) was.states;
    }

pub returns : goal.returns
returns g c =
    let done = c.settle_in_bands-parts in
    subst (λ (core : Core). HasSettled core c.args.jobs done.result.1
    (core_with done.new.self.image done.result.0)) c.core.view_is done.ensures.settled
