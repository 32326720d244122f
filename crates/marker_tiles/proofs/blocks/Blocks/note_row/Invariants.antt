use Rattle.marker_tiles.specs.Blocks.{AreNoted, disc_level}
use Rattle.marker_tiles.proofs.blocks.Blocks.note_row.Given as goal

-- at most the level of the disc was noted so far
abbrev pub invariant-loop-column : goal.invariant-loop-column
invariant-loop-column l = AreNoted (disc_level l.x l.y l.r l.level) l.fn.self l.self
