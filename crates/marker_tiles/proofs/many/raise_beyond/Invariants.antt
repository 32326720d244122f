use Rattle.std.proofs.Common.{◌/◌, ◌<◌}
use Rattle.marker_tiles.specs.{Blocks.IsRaisedWithin, Blocks.HasLevelWhere, UnderTags.level_at}
use Rattle.marker_tiles.proofs.many.raise_beyond.Given as goal

-- the rows of blocks so far have the level of the stroke where it lies
abbrev pub invariant-loop-row : goal.invariant-loop-row
invariant-loop-row l =
    IsRaisedWithin (level_at l.stroke) l.mask l.fn.image l.image
    × HasLevelWhere (λ p. p.y / l.blocks.side < l.row) (level_at l.stroke) l.mask l.image
