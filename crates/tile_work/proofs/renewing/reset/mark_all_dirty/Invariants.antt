-- What the loop of `mark_all_dirty` keeps.
use Rattle.std.proofs.Common.{take, Contains}
use Rattle.tile_work.specs.Renewing.{AreDirtyWhere}
use Rattle.tile_work.proofs.renewing.reset.mark_all_dirty.Given as goal

-- the tiles so far are dirty
abbrev pub invariant-loop-tile : goal.invariant-loop-tile
invariant-loop-tile l = AreDirtyWhere (Contains (take l.tile-index l.tiles)) l.fn.work l.work
