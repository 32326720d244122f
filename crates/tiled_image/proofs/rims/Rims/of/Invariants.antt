-- What the loop of `of` keeps.
use Rattle.std.proofs.Common.{◌<◌}
use Rattle.tiled_image.specs.Rims.{AreTaken}
use Rattle.tiled_image.proofs.rims.Rims.of.Given as goal

-- the rims of the tiles so far are taken over
abbrev pub invariant-loop-tile : goal.invariant-loop-tile
invariant-loop-tile l = AreTaken (λ t. t < l.tile) l.tiling l.image l.initial.rims l.rims
