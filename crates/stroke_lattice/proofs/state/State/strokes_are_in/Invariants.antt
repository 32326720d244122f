use Rattle.stroke_lattice.specs.State.{HasStroke}
use Rattle.stroke_lattice.proofs.Walking.{StrokesLeft}
use Rattle.stroke_lattice.proofs.state.State.strokes_are_in.Given as goal

-- the strokes so far stand in the other state
abbrev pub invariant-loop-tag : goal.invariant-loop-tag
invariant-loop-tag l = StrokesLeft (HasStroke l.other) l.self l.tag-iterator
