use Rattle.stroke_lattice.proofs.{Joins.nothing_has_no_stroke, Growing.withdrawn_has}
use Rattle.stroke_lattice.proofs.laws.contents_of_withdrawn.Goals as goal

pub returns : goal.returns
returns c = record { strokes = λ tag t seed. nothing_has_no_stroke t seed; tombstones = withdrawn_has }
