use Rattle.std.specs.Map.{keys_of}
use Rattle.stroke_lattice.specs.{State.HasSomeStroke, Growth.IsNewStroke}
use Rattle.stroke_lattice.proofs.Picking.{Picked}
use Rattle.stroke_lattice.proofs.state.State.new_strokes.Given as goal

-- of the tags so far those are picked of which it holds
abbrev pub invariant-loop-tag : goal.invariant-loop-tag
invariant-loop-tag l = Picked (IsNewStroke l.self l.delta) (HasSomeStroke l.delta) l.tags.items (keys_of l.tag-iterator)
