use Rattle.std.proofs.Common.{slice_get, sym, ap, ◌∙◌}
use Rattle.stroke_lattice.specs.Places.{pieces_behind}
use Rattle.spd_codec.specs.Spelling.{max_bytes}
use Rattle.link_nodes.specs.Cursors.{frame_pieces}
use Rattle.link_nodes.proofs.Cursors.{piece_there, pieces_after}
use Rattle.link_nodes.proofs.cursor.next_piece.Goals as goal

pub at-requires-clause-behind : goal.at-requires-clause-behind
at-requires-clause-behind c =
    let s = c.args.state.now in
    pieces_after c.in-Some.number (frame_pieces s) (pieces_behind max_bytes s c.in_ok-piece.behind) c.in_ok-piece.piece
    (sym c.in_ok-piece.ensures.pieces ∙ c.in-Some.ensures.place.1)

pub returns-clause-piece : goal.returns-clause-piece
returns-clause-piece c =
    let s = c.args.state.now in
    record {
      number = c.at.ensures.number ∙ c.in-Some.ensures.number;
      stands = ap (slice_get (frame_pieces s)) c.at.ensures.number
          ∙ piece_there c.in-Some.number (frame_pieces s) (pieces_behind max_bytes s c.in_ok-piece.behind)
          c.in_ok-piece.piece (sym c.in_ok-piece.ensures.pieces ∙ c.in-Some.ensures.place.1);
    }
