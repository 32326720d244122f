use Rattle.std.proofs.Common.{take}
use Rattle.stroke_lattice.specs.Growth.{IsWithoutStrokes}
use Rattle.stroke_lattice.proofs.state.State.remove_strokes.Given as goal

-- the strokes of the tags so far are gone
abbrev pub invariant-loop-tag : goal.invariant-loop-tag
invariant-loop-tag l = IsWithoutStrokes (take l.tag-index l.tags) l.initial.self l.self
