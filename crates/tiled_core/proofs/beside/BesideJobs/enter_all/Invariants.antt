-- What the loop of `enter_all` keeps.
use Rattle.std.proofs.Common.{◌-◌, ◌≡◌, length}
use Rattle.tiled_core.proofs.beside.BesideJobs.enter_all.Given as goal

abbrev pub invariant-loop-tile : goal.invariant-loop-tile
invariant-loop-tile l = l.self ≡ l.fn.self

-- the tiles that are left to look at
abbrev pub decreases-loop-tile : goal.decreases-loop-tile
decreases-loop-tile l = length l.work - l.from
