use Rattle.stroke_lattice.proofs.{Joins.nothing_has_no_tombstone, Growing.placed_has}
use Rattle.stroke_lattice.proofs.laws.contents_of_placed.Goals as goal

pub returns : goal.returns
returns c = record { strokes = placed_has; tombstones = λ tag t seed. nothing_has_no_tombstone t }
