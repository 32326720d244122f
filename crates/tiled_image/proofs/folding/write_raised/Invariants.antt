-- What the loop of `write_raised` keeps.
use Rattle.std.proofs.Common.{◌-◌, length}
use Rattle.tiled_image.specs.RaisedTiles.{IsShownBut, shown_of}
use Rattle.tiled_image.proofs.FoldedTiles.{IsRaisedFrom}
use Rattle.tiled_image.proofs.folding.write_raised.Given as goal

-- the rims of the tiles so far are written
abbrev pub invariant-loop-tile : goal.invariant-loop-tile
invariant-loop-tile l =
    IsShownBut (IsRaisedFrom l.next l.raised) (shown_of l.tiling l.fn.image l.rims) l.tiling l.image l.rims

abbrev pub decreases-loop-tile : goal.decreases-loop-tile
decreases-loop-tile l = length l.raised - l.next
