use Rattle.std.proofs.Common.{◌≤◌, arith, subst, sym}
use Rattle.border_queues.specs.{OpenEdges.room_for_edges, Waiting.places, TileWork.IsLeast}
use Rattle.core_rules.specs.{Work.Core, Runs.IsDirty}
use Rattle.reset_core.proofs.Settling.{none_swept, one_more_swept, bounded_burden, quiet_from}
use Rattle.std.proofs.lemmas.Grind.{common_steps}
use Rattle.reset_core.proofs.replica.Core.work_off_within.Goals as goal

pub loop-jobs-init : goal.loop-jobs-init
loop-jobs-init c = (
  none_swept c.args.self.now c.args.swept.now c.requires.left.none_out c.requires.left.no_hints,
  c.requires.enough,
)

pub work_off-requires-clause-next : goal.work_off-requires-clause-next
work_off-requires-clause-next c =
    let least =
    subst (λ (core : Core). IsLeast (IsDirty core) c.in-Some.tile) c.self-in-loop-jobs.view_is c.in-Some.ensures in (
      c.loop-jobs.invariant.0.none_out,
      c.loop-jobs.invariant.0.no_hints,
      least,
    )

pub work_off-requires-clause-enough : goal.work_off-requires-clause-enough
work_off-requires-clause-enough c = c.loop-jobs.invariant.1

pub insert-requires : goal.insert-requires
insert-requires c =
    let least =
    subst (λ (core : Core). IsLeast (IsDirty core) c.in-Some.tile) c.self-in-loop-jobs.view_is c.in-Some.ensures in
    omega (arith, least.0.0, c.loop-jobs.invariant.0.count, c.loop-jobs.invariant.0.swept.count, c.requires.count)

pub loop-jobs-preserved : goal.loop-jobs-preserved
loop-jobs-preserved c =
    let least =
    subst (λ (core : Core). IsLeast (IsDirty core) c.in-Some.tile) c.self-in-loop-jobs.view_is c.in-Some.ensures in
    let so_far = c.loop-jobs.invariant.0 in (
      rw c.insert.ensures (one_more_swept c.args.self.now c.args.swept.now c.loop-jobs.self c.loop-jobs.swept
          c.loop-jobs.jobs c.in-Some.tile c.work_off.new.self so_far c.work_off.ensures.worked.0
          c.work_off.ensures.worked.1 (omega (arith, least.0.0, so_far.count, so_far.swept.count, c.requires.count))),
      subst (λ tiles. room_for_edges tiles ≤ places c.work_off.new.told) (sym c.work_off.ensures.worked.1)
          (omega (arith, c.loop-jobs.invariant.1, c.work_off.ensures.enough)),
    )

pub returns-in_default-clause-works : goal.returns-in_default-clause-works
returns-in_default-clause-works c =
    let none = subst (λ (core : Core). (t : _) → IsDirty core t → ⊥) c.self-in-loop-jobs.view_is c.in_default.ensures in
    record {
      off = c.loop-jobs.invariant.0;
      at_most = c.loop-jobs.auto.jobs-end;
      to_the_end = λ fewer.
          quiet_from c.loop-jobs.self c.loop-jobs.invariant.0.none_out c.loop-jobs.invariant.0.no_hints none;
    }

pub returns-clause-few : goal.returns-clause-few
returns-clause-few c =
    let few = bounded_burden c.args.self.now c.image.ensures.sized c.tiling.ensures.tiled c.tiling.ensures.count in
    omega (arith, c.loop-jobs.invariant.0.spent, few, c.loop-jobs-test.false)

pub returns-clause-works : goal.returns-clause-works
returns-clause-works c = grind (arith, common_steps)
