use Rattle.border_queues.specs.{Waiting.places, OpenEdges.room_for_edges}
use Rattle.std.proofs.Common.{◌≤◌}
use Rattle.core_rules.specs.Work.{tiling}
use Rattle.reset_core.specs.Settling.{AreWorkedOff}
use Rattle.reset_core.proofs.replica.Core.work_off_within.Given as goal

abbrev pub invariant-loop-jobs : goal.invariant-loop-jobs
invariant-loop-jobs l =
    AreWorkedOff l.fn.self l.fn.swept l.self l.swept l.jobs × (room_for_edges (tiling l.self) ≤ places l.told)
