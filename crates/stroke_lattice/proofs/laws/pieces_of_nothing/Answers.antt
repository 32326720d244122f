use Rattle.stroke_lattice.proofs.Cutting.{no_pieces_of_nothing}
use Rattle.stroke_lattice.proofs.laws.pieces_of_nothing.Goals as goal

pub returns : goal.returns
returns c = no_pieces_of_nothing
