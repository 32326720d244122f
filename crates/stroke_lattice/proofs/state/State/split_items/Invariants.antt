use Rattle.stroke_lattice.specs.Filling.{IsFilling, IsMeasured, filling}
use Rattle.stroke_lattice.proofs.state.State.split_items.Given as goal

-- the items so far are in the pieces
abbrev pub invariant-loop-entry : goal.invariant-loop-entry
invariant-loop-entry l = record {
  measured : IsMeasured l.pieces;
  filling : IsFilling l.max_bytes l.self (filling l.pieces) l.entry-iterator;
}
