use Rattle.std.proofs.Common.{take}
use Rattle.marker_tiles.specs.UnderTags.{IsClearedOf}
use Rattle.marker_tiles.proofs.strokes.clear_of.Given as goal

-- the image is cleared of the strokes under the tags so far
abbrev pub invariant-loop-tag : goal.invariant-loop-tag
invariant-loop-tag l = IsClearedOf l.state (take l.tag-index l.tags) l.mask l.fn.image l.image
