use Rattle.std.proofs.Common.{sym, ap, ◌∙◌}
use Rattle.stroke_lattice.specs.Pieces.{frame_length}
use Rattle.stroke_lattice.proofs.Items.{frame_length_of_nothing}
use Rattle.stroke_lattice.proofs.piece.OpenPiece.new.Goals as goal

pub returns-clause-measured : goal.returns-clause-measured
returns-clause-measured c = sym (ap frame_length c.new.ensures ∙ frame_length_of_nothing)
