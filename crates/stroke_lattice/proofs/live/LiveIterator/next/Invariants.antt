use Rattle.std.proofs.Common.{◌≡◌, length, filter}
use Rattle.stroke_lattice.proofs.Walking.{lives}
use Rattle.stroke_lattice.proofs.live.LiveIterator.next.Given as goal

-- those that are left are the live ones of the strokes that are left
abbrev pub invariant-loop-tag : goal.invariant-loop-tag
invariant-loop-tag l = filter (lives l.self-inside.tombstones.now.keys) l.self-inside.strokes ≡ l.fn.self

abbrev pub decreases-loop-tag : goal.decreases-loop-tag
decreases-loop-tag l = length l.self-inside.strokes
