-- What the loop of `write_parts` keeps.
use Rattle.std.proofs.Common.{◌-◌, length}
use Rattle.tiled_image.specs.TiledImage.{image_of}
use Rattle.tiled_image.proofs.WrittenTiles.{IsWrittenBefore}
use Rattle.tiled_image.proofs.keeping.write_parts.Given as goal

-- the parts of the tiles so far are written
abbrev pub invariant-loop-tile : goal.invariant-loop-tile
invariant-loop-tile l =
    IsWrittenBefore l.next (image_of l.tiling l.fn.rows l.parts l.newer) l.tiling l.rows l.parts l.newer

abbrev pub decreases-loop-tile : goal.decreases-loop-tile
decreases-loop-tile l = length l.newer - l.next
