-- What the loop of `take_each` keeps.
use Rattle.std.proofs.Common.{◌+◌}
use Rattle.tile_work.specs.TileSet.{Has}
use Rattle.tiled_image.specs.OwnRims.{ArePartTaken}
use Rattle.tiled_image.proofs.OwnRims.{HoldsBefore}
use Rattle.tiled_image.proofs.rims.taking.take_each.Given as goal

-- the rims of the tiles so far are taken over
abbrev pub invariant-loop-n : goal.invariant-loop-n
invariant-loop-n l =
    ArePartTaken (HoldsBefore (Has l.tiles) (l.first + l.n)) l.tiling l.image l.first l.count l.fn.values l.values
