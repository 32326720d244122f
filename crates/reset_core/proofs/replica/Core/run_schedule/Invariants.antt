use Rattle.std.proofs.Common.{drop}
use Rattle.core_rules.specs.Schedule.{edits_of}
use Rattle.reset_core.specs.Scheduling.{kept_of, HaveRunSoFar, HasRoom}
use Rattle.reset_core.proofs.replica.Core.run_schedule.Given as goal

abbrev pub invariant-loop-i : goal.invariant-loop-i
invariant-loop-i l =
    HaveRunSoFar l.fn.self l.steps l.i l.self (kept_of l.tally) × HasRoom l.tally (edits_of (drop l.i l.steps))
