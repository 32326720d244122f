-- How much is settled at a time, and by how many threads.
use Rattle.std.specs.Prelude.{ℕ, ◌+◌, ◌*◌, ◌<◌, ◌≤◌}

-- so many threads may settle a slice
pub record AreFewThreads (threads : ℕ) : Type 0 where
  pub some : 1 ≤ threads
  pub few : threads ≤ 4

-- how many pixels a slice has at most for each of its threads: those of 64 tiles with the side 64
abbrev pub slice_pixels : ℕ
slice_pixels = 64 * 64 * 64

-- the most jobs of tiles with this side that have no more pixels than a slice for so many threads, together; that is at
-- least one
pub record IsSliceOf (side threads jobs : ℕ) : Type 0 where
  pub some : 1 ≤ jobs
  pub within : jobs * (side * side) ≤ threads * slice_pixels
  pub most : threads * slice_pixels < (jobs + 1) * (side * side)
