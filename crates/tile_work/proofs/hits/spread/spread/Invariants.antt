-- What the loop of `spread` keeps.
use Rattle.std.proofs.Common.{length}
use Rattle.tile_work.specs.TileSet.{Has}
use Rattle.core_rules.specs.Hits.{AreLinked}
use Rattle.tile_work.proofs.HittingWalk.{IsWalk, unfinished}
use Rattle.tile_work.proofs.hits.spread.spread.Given as goal

-- what is marked is reached, and what is not reached yet is led to from the queue
abbrev pub invariant-loop-tile : goal.invariant-loop-tile
invariant-loop-tile l =
    IsWalk (Has l.fn.marks) (AreLinked l.links.tiling l.links.image.now l.links.conn) (length l.fn.marks)
    l.marks l.queue

abbrev pub decreases-loop-tile : goal.decreases-loop-tile
decreases-loop-tile l = unfinished l.marks l.queue (length l.marks)
