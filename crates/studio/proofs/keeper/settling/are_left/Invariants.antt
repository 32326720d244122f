use Rattle.std.proofs.Common.{◌≡◌, ◌≤◌, ◌↔◌, ◌+◌, ℕ}
use Rattle.studio.specs.Left.{HasAtLeast, IsLeft}
use Rattle.studio.proofs.keeper.settling.are_left.Given as goal

-- so many tiles are left where as many as the loop has still to find are left from here on
abbrev pub invariant-loop-tile : goal.invariant-loop-tile
invariant-loop-tile l = (n : ℕ) → n + l._tile ≡ l.count
    → HasAtLeast l.count (IsLeft l.core) ↔ HasAtLeast n (λ t. (l.from ≤ t) × IsLeft l.core t)
