use Rattle.std.proofs.Common.{◌/◌, ◌<◌}
use Rattle.marker_tiles.specs.Blocks.{IsRaisedWithin, HasLevelWhere, level_in}
use Rattle.marker_tiles.proofs.many.raise_blocks.Given as goal

-- the rows of blocks so far have their levels
abbrev pub invariant-loop-row : goal.invariant-loop-row
invariant-loop-row l =
    IsRaisedWithin (level_in l.blocks) l.mask l.fn.image l.image
    × HasLevelWhere (λ p. p.y / l.blocks.side < l.row) (level_in l.blocks) l.mask l.image
