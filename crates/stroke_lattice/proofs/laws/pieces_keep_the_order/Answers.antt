use Rattle.stroke_lattice.proofs.Cutting.{items_of_pieces}
use Rattle.stroke_lattice.proofs.laws.pieces_keep_the_order.Goals as goal

pub returns : goal.returns
returns c = items_of_pieces
