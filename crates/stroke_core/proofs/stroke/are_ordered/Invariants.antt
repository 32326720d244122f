use Rattle.std.proofs.Common.{◌↔◌, length}
use Rattle.stroke_core.specs.Seed.{AreOrdered}
use Rattle.stroke_core.proofs.stroke.are_ordered.Given as goal

abbrev pub invariant-loop-left : goal.invariant-loop-left
invariant-loop-left l = AreOrdered l.left ↔ AreOrdered l.runs

abbrev pub decreases-loop-left : goal.decreases-loop-left
decreases-loop-left l = length l.left
