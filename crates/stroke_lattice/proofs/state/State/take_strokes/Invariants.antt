use Rattle.stroke_lattice.specs.{State.HasSomeStroke, Growth.IsBetween}
use Rattle.stroke_lattice.proofs.Walking.{StrokesLeft}
use Rattle.stroke_lattice.proofs.state.State.take_strokes.Given as goal

-- the state has a stroke of each tag so far, and grew by strokes of the delta
abbrev pub invariant-loop-tag : goal.invariant-loop-tag
invariant-loop-tag l = record {
  left : StrokesLeft (λ tag seed. HasSomeStroke l.self tag) l.delta l.tag-iterator;
  between : IsBetween l.initial.self l.delta l.self;
}
