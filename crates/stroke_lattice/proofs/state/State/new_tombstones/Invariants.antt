use Rattle.stroke_lattice.specs.{State.HasTombstone, Growth.IsNewTombstone}
use Rattle.stroke_lattice.proofs.Picking.{Picked}
use Rattle.stroke_lattice.proofs.state.State.new_tombstones.Given as goal

-- of the tags so far those are picked of which it holds
abbrev pub invariant-loop-tag : goal.invariant-loop-tag
invariant-loop-tag l = Picked (IsNewTombstone l.self l.delta) (HasTombstone l.delta) l.tags.items l.tag-iterator
