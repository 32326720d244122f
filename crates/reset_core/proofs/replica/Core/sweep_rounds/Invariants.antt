use Rattle.std.proofs.Common.{◌≤◌}
use Rattle.reset_core.specs.Bands.{AreSweptInto}
use Rattle.reset_core.proofs.replica.Core.sweep_rounds.Given as goal

-- so many tiles were swept so far, and no more than may be
abbrev pub invariant-loop : goal.invariant-loop
invariant-loop g l = record {
  swept : AreSweptInto l.fn.self l.fn.swept l.self l.swept l.done;
  at_most : l.done ≤ l.jobs;
}
