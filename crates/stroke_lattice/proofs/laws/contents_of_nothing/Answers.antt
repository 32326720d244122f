use Rattle.stroke_lattice.proofs.Joins.{nothing_has_no_stroke, nothing_has_no_tombstone}
use Rattle.stroke_lattice.proofs.laws.contents_of_nothing.Goals as goal

pub returns : goal.returns
returns c = record { strokes = nothing_has_no_stroke; tombstones = nothing_has_no_tombstone }
