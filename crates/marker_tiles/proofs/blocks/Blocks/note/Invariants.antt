use Rattle.std.proofs.Common.{take}
use Rattle.marker_tiles.specs.{Blocks.AreNoted, UnderTags.level_of_some}
use Rattle.marker_tiles.proofs.blocks.Blocks.note.Given as goal

-- at most the levels of the strokes under the tags so far were noted
abbrev pub invariant-loop-tag : goal.invariant-loop-tag
invariant-loop-tag l = AreNoted (level_of_some l.state (take l.tag-index l.tags)) l.fn.self l.self
