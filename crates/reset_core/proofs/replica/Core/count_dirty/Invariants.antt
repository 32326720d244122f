use Rattle.std.proofs.Common.{ℕ, ◌<◌}
use Rattle.core_rules.specs.Runs.{IsDirty}
use Rattle.reset_core.proofs.replica.Core.count_dirty.Given as goal

abbrev pub invariant-loop-count : goal.invariant-loop-count
invariant-loop-count l = 0 < l.count → (t : ℕ) × IsDirty l.self t
