use Rattle.std.proofs.Common.{take}
use Rattle.stroke_lattice.specs.Growth.{IsWithoutTombstones}
use Rattle.stroke_lattice.proofs.state.State.remove_tombstones.Given as goal

-- the tombstones of the tags so far are gone
abbrev pub invariant-loop-tag : goal.invariant-loop-tag
invariant-loop-tag l = IsWithoutTombstones (take l.tag-index l.tags) l.initial.self l.self
