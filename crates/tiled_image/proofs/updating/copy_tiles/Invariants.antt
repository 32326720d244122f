-- What the loop of `copy_tiles` keeps.
use Rattle.std.proofs.Common.{◌-◌, length}
use Rattle.tiled_image.specs.{SharedCopies.IsCopyBut, TiledImage.image_of}
use Rattle.tiled_image.proofs.UpdatedCopies.{HasFrom}
use Rattle.tiled_image.proofs.updating.copy_tiles.Given as goal

-- the tiles so far are copied
abbrev pub invariant-loop-tile : goal.invariant-loop-tile
invariant-loop-tile l =
    IsCopyBut (HasFrom l.tiles l.next) l.tiling (image_of l.tiling l.rows l.parts l.newer) l.copy

abbrev pub decreases-loop-tile : goal.decreases-loop-tile
decreases-loop-tile l = length l.tiles - l.next
