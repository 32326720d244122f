use Rattle.stroke_lattice.specs.State.{HasTombstone}
use Rattle.stroke_lattice.proofs.Walking.{TombstonesLeft}
use Rattle.stroke_lattice.proofs.state.State.tombstones_are_in.Given as goal

-- the tombstones so far stand in the other state
abbrev pub invariant-loop-tag : goal.invariant-loop-tag
invariant-loop-tag l = TombstonesLeft (HasTombstone l.other) l.self l.tag-iterator
