-- What the loop of `take_rims` keeps.
use Rattle.std.proofs.Common.{◌-◌, length}
use Rattle.tile_work.specs.TileSet.{Has}
use Rattle.tiled_image.specs.Rims.{AreTaken}
use Rattle.tiled_image.proofs.RenewedTiles.{HoldsBelow}
use Rattle.tiled_image.proofs.image.renewing.take_rims.Given as goal

-- the rims of the tiles so far are taken over
abbrev pub invariant-loop-tile : goal.invariant-loop-tile
invariant-loop-tile l = AreTaken (HoldsBelow (Has l.tiles) l.next) l.tiling l.image l.fn.rims l.rims

abbrev pub decreases-loop-tile : goal.decreases-loop-tile
decreases-loop-tile l = length l.tiles - l.next
