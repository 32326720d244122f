-- What the loop of `widen_near` keeps.
use Rattle.std.proofs.Common.{take, Contains}
use Rattle.tile_work.specs.Renewing.{AreWidenedNear}
use Rattle.tile_work.proofs.renewing.reset.widen_near.Given as goal

-- the tiles so far are widened
abbrev pub invariant-loop-tile : goal.invariant-loop-tile
invariant-loop-tile l =
    AreWidenedNear l.tiling l.near (Contains (take l.tile-index l.tiles)) l.fn.bounds l.bounds
