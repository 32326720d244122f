-- Of how many of so many numbers a test holds.
use Rattle.std.specs.Prelude.{ℕ, zero, suc, ◌+◌, Bool, if◌then◌else◌}

-- of how many of so many numbers, from this one on, the test holds
abbrev pub count_from : (ℕ → Bool) → ℕ → ℕ → ℕ
count_from test from zero = 0
count_from test from (suc n) = (if test from then 1 else 0) + count_from test (from + 1) n
