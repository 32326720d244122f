use Rattle.stroke_lattice.proofs.Cutting.{no_empty_piece}
use Rattle.stroke_lattice.proofs.laws.no_piece_is_empty.Goals as goal

pub returns : goal.returns
returns c = no_empty_piece
