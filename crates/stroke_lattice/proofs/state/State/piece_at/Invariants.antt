use Rattle.std.proofs.Common.{◌≡◌, List, ◌++◌}
use Rattle.stroke_lattice.specs.{Pieces.Item, Pieces.items_of, Places.IsOpenMeasured, Places.pieces_from}
use Rattle.stroke_lattice.proofs.Opening.{IsOpen}
use Rattle.stroke_lattice.proofs.state.State.piece_at.Given as goal

-- the items so far are in the piece
abbrev pub invariant-loop-entry : goal.invariant-loop-entry
invariant-loop-entry l = record {
  measured : IsOpenMeasured l.piece;
  filled : IsOpen l.max_bytes (pieces_from l.max_bytes l.self l.fn.place) l.piece.state l.entry-iterator;
  walked : (before : List Item) × (before ++ l.entry-iterator ≡ items_of l.self);
}
