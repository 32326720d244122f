-- What the loop of `unite` keeps.
use Rattle.std.proofs.Common.{◌≡◌, ℕ, ◌<◌, ◌≤◌, get_or, bit_or}
use Rattle.tile_work.proofs.tile_set.unite.Given as goal

-- the words so far are united, and the others are as they were
abbrev pub invariant-loop-i : goal.invariant-loop-i
invariant-loop-i l =
    ((k : ℕ) → k < l.i → get_or l.words k 0 ≡ bit_or (get_or l.fn.words k 0) (get_or l.others k 0))
    × ((k : ℕ) → l.i ≤ k → get_or l.words k 0 ≡ get_or l.fn.words k 0)
