-- What the loop of `none` keeps.
use Rattle.std.proofs.Common.{◌≡◌, None, map, replicate}
use Rattle.tile_generations.specs.CutMasks.{cut_mask}
use Rattle.tiled_image.proofs.tile_parts.TileParts.none.Given as goal

-- so many tiles have no part
abbrev pub invariant-loop-tile : goal.invariant-loop-tile
invariant-loop-tile l = map cut_mask l.tiles.items ≡ replicate l._tile None
