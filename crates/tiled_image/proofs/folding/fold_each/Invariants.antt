-- What the loop of `fold_each` keeps.
use Rattle.std.proofs.Common.{◌-◌, length}
use Rattle.tiled_image.specs.RaisedTiles.{whole_of}
use Rattle.tiled_image.proofs.FoldedTiles.{IsFoldedBefore}
use Rattle.tiled_image.proofs.folding.fold_each.Given as goal

-- the tiles so far are folded
abbrev pub invariant-loop-tile : goal.invariant-loop-tile
invariant-loop-tile l =
    IsFoldedBefore l.next (whole_of l.tiling l.fn.rows l.fn.parts l.fn.newer l.rims) l.tiling l.rows l.parts l.newer
    l.raised l.rims

abbrev pub decreases-loop-tile : goal.decreases-loop-tile
decreases-loop-tile l = length l.raised - l.next
