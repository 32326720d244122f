-- What the loop of `is_equal` keeps.
use Rattle.std.proofs.Common.{◌≡◌, ℕ, ◌<◌, ◌↔◌, false, get_or}
use Rattle.reset_core.proofs.parts.is_equal.Given as goal

-- the flag is down exactly where no cell so far differs
abbrev pub invariant-loop-i : goal.invariant-loop-i
invariant-loop-i l = (l.differ ≡ false) ↔ ((k : ℕ) → k < l.i → get_or l.a k 0 ≡ get_or l.b k 0)
