use Rattle.stroke_lattice.proofs.Cutting.{join_of_pieces}
use Rattle.stroke_lattice.proofs.laws.pieces_join.Goals as goal

pub returns : goal.returns
returns c = join_of_pieces
