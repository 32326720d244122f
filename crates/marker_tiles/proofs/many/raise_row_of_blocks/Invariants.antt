use Rattle.std.proofs.Common.{◌≡◌, ◌/◌, ◌<◌}
use Rattle.marker_tiles.specs.Blocks.{IsRaisedWithin, HasLevelWhere, level_in}
use Rattle.marker_tiles.proofs.many.raise_row_of_blocks.Given as goal

-- the blocks so far have their levels
abbrev pub invariant-loop-column : goal.invariant-loop-column
invariant-loop-column l =
    IsRaisedWithin (level_in l.blocks) l.mask l.fn.image l.image
    × HasLevelWhere (λ p. (p.y / l.blocks.side ≡ l.row) × (p.x / l.blocks.side < l.column)) (level_in l.blocks) l.mask
    l.image
