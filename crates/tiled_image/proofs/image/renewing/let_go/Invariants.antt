-- What the loop of `let_go` keeps.
use Rattle.std.proofs.Common.{◌-◌, length}
use Rattle.tile_work.specs.TileSet.{Has}
use Rattle.tiled_image.specs.TileParts.{AreLetGo}
use Rattle.tiled_image.proofs.RenewedTiles.{HoldsBelow}
use Rattle.tiled_image.proofs.image.renewing.let_go.Given as goal

-- the parts of the tiles so far are gone
abbrev pub invariant-loop-tile : goal.invariant-loop-tile
invariant-loop-tile l = AreLetGo (HoldsBelow (Has l.tiles) l.next) l.fn.parts l.parts

abbrev pub decreases-loop-tile : goal.decreases-loop-tile
decreases-loop-tile l = length l.tiles - l.next
