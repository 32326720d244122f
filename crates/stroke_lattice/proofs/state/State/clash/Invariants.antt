use Rattle.stroke_lattice.proofs.{Walking.StrokesLeft, Comparing.HasNoOther}
use Rattle.stroke_lattice.proofs.state.State.clash.Given as goal

-- the strokes so far do not clash
abbrev pub invariant-loop-tag : goal.invariant-loop-tag
invariant-loop-tag l = StrokesLeft (HasNoOther l.self) l.delta l.tag-iterator
