use Rattle.stroke_lattice.proofs.Cutting.{full_pieces}
use Rattle.stroke_lattice.proofs.laws.pieces_are_full.Goals as goal

pub returns : goal.returns
returns c = full_pieces
