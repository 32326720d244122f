use Rattle.stroke_core.specs.Seed.{Fits}
use Rattle.stroke_lattice.proofs.Walking.{StrokesLeft}
use Rattle.stroke_lattice.proofs.state.State.outside.Given as goal

-- the strokes so far fit
abbrev pub invariant-loop-tag : goal.invariant-loop-tag
invariant-loop-tag l = StrokesLeft (λ tag seed. Fits l.w l.h seed) l.self l.tag-iterator
