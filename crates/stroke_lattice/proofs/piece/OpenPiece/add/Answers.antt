use Rattle.std.proofs.Common.{◌≡◌, ◌+◌, arith, ap, ◌∙◌}
use Rattle.stroke_lattice.specs.{Pieces.frame_length, Pieces.item_length, Places.item_of}
use Rattle.stroke_lattice.proofs.Items.{frame_length_of_longer}
use Rattle.stroke_lattice.proofs.piece.OpenPiece.add.Goals as goal

pub returns-clause-measured : goal.returns-clause-measured
returns-clause-measured c =
    let piece = c.args.self.now.state in
    let longer : frame_length c.put_last.new.self ≡ frame_length piece + item_length (item_of c.args.entry.now) =
    ap frame_length c.in_ok-put_last.ensures
    ∙ frame_length_of_longer piece (item_of c.args.entry.now) c.requires.before in
    omega (arith, longer, c.requires.measured, c.byte_len.ensures.bytes)
