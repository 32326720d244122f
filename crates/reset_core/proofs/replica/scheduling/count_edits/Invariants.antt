use Rattle.std.proofs.Common.{◌≡◌, ◌+◌, ◌≤◌, drop}
use Rattle.core_rules.specs.Schedule.{edits_of}
use Rattle.reset_core.proofs.replica.scheduling.count_edits.Given as goal

abbrev pub invariant-loop-step : goal.invariant-loop-step
invariant-loop-step l = (l.edits + edits_of (drop l.step-index l.steps) ≡ edits_of l.steps) × (l.edits ≤ l.step-index)
