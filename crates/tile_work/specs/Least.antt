-- The next number of which something holds.
use Rattle.std.specs.Prelude.{ℕ, ◌≤◌, Option, MatchOption}
use Rattle.border_queues.specs.TileWork.{IsLeast}

-- the answer is the least number from this one on of which it holds, and none where it holds of none from there on
abbrev pub IsLeastFrom : (ℕ → Type 0) → ℕ → Option ℕ → Type 0
IsLeastFrom P from answer =
    MatchOption answer ((n : ℕ) → from ≤ n → P n → ⊥) (IsLeast (λ n. (from ≤ n) × P n))
