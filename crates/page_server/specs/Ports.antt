-- The ports at which a page is looked for, where none is said.
use Rattle.std.specs.{Prelude.ℕ, Prelude.◌+◌, Prelude.◌%◌, Prelude.List, Prelude.take, Int.w16, Int.from_be_bytes}
use Rattle.sha2.specs.Sha256.{sha256}

-- the home of a path: what the first two bytes of its digest are
abbrev pub home_of : List ℕ → ℕ
home_of path = from_be_bytes w16 (take 2 (sha256 path))

-- the port that is tried at a turn: one after another of 20480 to 28671 from the home on, and behind the last the first
abbrev pub nearby : ℕ → ℕ → ℕ
nearby home turn = 20480 + (home + turn) % 8192
