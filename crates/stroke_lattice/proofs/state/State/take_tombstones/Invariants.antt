use Rattle.std.proofs.Common.{◌≡◌}
use Rattle.stroke_lattice.specs.{State.HasTombstone, Growth.IsBetween}
use Rattle.stroke_lattice.proofs.Walking.{TombstonesLeft}
use Rattle.stroke_lattice.proofs.state.State.take_tombstones.Given as goal

-- the state has each tombstone so far, and grew by tombstones of the delta
abbrev pub invariant-loop-tag : goal.invariant-loop-tag
invariant-loop-tag l = record {
  left : TombstonesLeft (HasTombstone l.self) l.delta l.tag-iterator;
  between : IsBetween l.initial.self l.delta l.self;
  strokes : l.self.strokes ≡ l.initial.self.strokes;
}
