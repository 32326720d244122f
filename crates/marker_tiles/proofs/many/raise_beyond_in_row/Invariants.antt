use Rattle.std.proofs.Common.{◌≡◌, ◌/◌, ◌<◌}
use Rattle.marker_tiles.specs.{Blocks.IsRaisedWithin, Blocks.HasLevelWhere, UnderTags.level_at}
use Rattle.marker_tiles.proofs.many.raise_beyond_in_row.Given as goal

-- the blocks so far have the level of the stroke where it lies
abbrev pub invariant-loop-column : goal.invariant-loop-column
invariant-loop-column l =
    IsRaisedWithin (level_at l.stroke) l.mask l.fn.image l.image
    × HasLevelWhere (λ p. (p.y / l.blocks.side ≡ l.row) × (p.x / l.blocks.side < l.column)) (level_at l.stroke) l.mask
    l.image
