use Rattle.stroke_lattice.specs.{State.HasTombstone, Growth.IsDeath}
use Rattle.stroke_lattice.proofs.Picking.{Picked}
use Rattle.stroke_lattice.proofs.state.State.deaths.Given as goal

-- of the tags so far those are picked of which it holds
abbrev pub invariant-loop-tag : goal.invariant-loop-tag
invariant-loop-tag l = Picked (IsDeath l.self l.delta) (HasTombstone l.delta) l.tags.items l.tag-iterator
