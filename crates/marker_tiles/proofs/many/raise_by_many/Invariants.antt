use Rattle.std.proofs.Common.{take}
use Rattle.marker_tiles.specs.{Blocks.IsRaisedWithin, Blocks.HasLevel, Blocks.level_in, UnderTags.level_of_some}
use Rattle.marker_tiles.proofs.many.raise_by_many.Given as goal

-- the image has the levels of the blocks and those of the strokes under the tags so far, and has risen to no more
abbrev pub invariant-loop-tag : goal.invariant-loop-tag
invariant-loop-tag l =
    IsRaisedWithin (level_of_some l.state l.tags) l.mask l.fn.image l.image
    × HasLevel (level_in l.blocks) l.mask l.image
    × HasLevel (level_of_some l.state (take l.tag-index l.tags)) l.mask l.image
