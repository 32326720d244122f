use Rattle.std.proofs.Common.{◌≤◌, subst, arith}
use Rattle.border_queues.specs.{OpenEdges.room_for_edges, Waiting.places}
use Rattle.core_rules.specs.{Work.Core, Runs.IsDirty}
use Rattle.reset_core.proofs.Settling.{quiet_from, none_swept}
use Rattle.reset_core.proofs.replica.Core.sweep_within.Goals as goal

pub returns-in_default-clause-works : goal.returns-in_default-clause-works
returns-in_default-clause-works c =
    let none = subst (λ (core : Core). (t : _) → IsDirty core t → ⊥) c.self.view_is c.in_default.ensures in
    record {
      off = none_swept c.args.self.now c.args.swept.now c.requires.left.none_out c.requires.left.no_hints;
      at_most = omega arith;
      to_the_end = λ fewer. quiet_from c.args.self.now c.requires.left.none_out c.requires.left.no_hints none;
    }

pub work_off_within-jobs-requires-clause-enough : goal.work_off_within-jobs-requires-clause-enough
work_off_within-jobs-requires-clause-enough c =
    subst (λ tiles. room_for_edges tiles ≤ places c.in_ok-told.told) c.tiling-tiling.ensures.value
    c.in_ok-told.ensures

pub work_off_within-jobs-requires-clause-left : goal.work_off_within-jobs-requires-clause-left
work_off_within-jobs-requires-clause-left c = c.requires.left
