use Rattle.std.proofs.Common.{◌-◌, length}
use Rattle.core_dispatch.proofs.Pushing.{ArePushedBelow}
use Rattle.core_dispatch.proofs.dispatcher.Dispatcher.push_jobs.Given as goal

abbrev pub invariant-loop-tile : goal.invariant-loop-tile
invariant-loop-tile l = ArePushedBelow l.from l.fn.self l.pushed l.self

-- the tiles that are left to look at
abbrev pub decreases-loop-tile : goal.decreases-loop-tile
decreases-loop-tile l = length l.self.books.core.tiles - l.from
