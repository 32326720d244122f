use Rattle.std.proofs.Common.{◌≡◌, ◌≤◌, List, ◌++◌}
use Rattle.stroke_lattice.specs.Pieces.{Item, items_of}
use Rattle.stroke_lattice.proofs.Opening.{AreCounted}
use Rattle.stroke_lattice.proofs.state.State.place_of_piece.Given as goal

-- the pieces of the items so far are counted, and the wanted one has not begun
abbrev pub invariant-loop-entry : goal.invariant-loop-entry
invariant-loop-entry l = record {
  counted : AreCounted l.max_bytes l.self l.begun l.length l.entry-iterator;
  within : l.begun ≤ l.number;
  walked : (before : List Item) × (before ++ l.entry-iterator ≡ items_of l.self);
}
