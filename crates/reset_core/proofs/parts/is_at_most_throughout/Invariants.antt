-- What the loop of `is_at_most_throughout` keeps.
use Rattle.std.proofs.Common.{◌-◌, ◌≤◌, length}
use Rattle.reset_core.proofs.AtOnce.{AreFirstRelated}
use Rattle.reset_core.proofs.parts.is_at_most_throughout.Given as goal

-- no cell so far is above
abbrev pub invariant-loop-start : goal.invariant-loop-start
invariant-loop-start l = record {
  within : l.start ≤ length l.a;
  alike : AreFirstRelated (λ a b. a ≤ b) l.a l.b l.start;
}

-- the cells that are left
abbrev pub decreases-loop-start : goal.decreases-loop-start
decreases-loop-start l = length l.a - l.start
