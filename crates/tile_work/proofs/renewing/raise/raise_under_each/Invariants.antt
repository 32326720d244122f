-- What the loop of `raise_under_each` keeps.
use Rattle.std.proofs.Common.{take}
use Rattle.marker_tiles.specs.UnderTags.{some_covers}
use Rattle.tile_work.specs.Renewing.{AreRisesWithin, IsRaisedWhere}
use Rattle.tile_work.proofs.renewing.raise.raise_under_each.Given as goal

-- the strokes under the tags so far are raised
abbrev pub invariant-loop-tag : goal.invariant-loop-tag
invariant-loop-tag l =
    IsRaisedWhere l.tiling (some_covers l.state (take l.tag-index l.tags)) l.marker l.fn.image l.image l.fn.work l.work
    × AreRisesWithin l.tiling l.fn.image l.image l.fn.bounds l.bounds
