-- What the loop of `enter` keeps.
use Rattle.std.proofs.Common.{◌≡◌}
use Rattle.tiled_core.proofs.beside.BesideJobs.enter.Given as goal

abbrev pub invariant-loop-other : goal.invariant-loop-other
invariant-loop-other l = l.self ≡ l.fn.self
