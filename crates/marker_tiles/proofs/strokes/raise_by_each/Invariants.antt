use Rattle.std.proofs.Common.{take}
use Rattle.marker_tiles.specs.UnderTags.{IsRaisedBy}
use Rattle.marker_tiles.proofs.strokes.raise_by_each.Given as goal

-- the image is raised by the strokes under the tags so far
abbrev pub invariant-loop-tag : goal.invariant-loop-tag
invariant-loop-tag l = IsRaisedBy l.state (take l.tag-index l.tags) l.mask l.fn.image l.image
