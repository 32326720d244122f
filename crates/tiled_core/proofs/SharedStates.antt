-- Copies of strokes that were given out still make up the strokes with what was merged since.
use Rattle.std.proofs.Common.{subst}
use Rattle.stroke_lattice.specs.State.{State, IsBelow, IsJoin, nothing}
use Rattle.stroke_lattice.proofs.Joins.{below_itself, nothing_has_no_stroke, nothing_has_no_tombstone, one_join}
use Rattle.stroke_lattice.proofs.Joining.{to_right}

nothing_is_below : (state : State) → IsBelow nothing state
nothing_is_below state = record {
  strokes = λ tag seed has. absurd (nothing_has_no_stroke tag seed has);
  tombstones = λ tag has. absurd (nothing_has_no_tombstone tag has);
}

-- nothing was merged yet
pub merged_nothing : (state : State) → IsJoin state nothing state
merged_nothing state = record {
  first = below_itself state;
  second = nothing_is_below state;
  least = λ other above above_nothing. above;
}

-- a delta more was merged, into the strokes and into what was merged since
pub merged_since : (copy since delta before after merged : State) → IsJoin copy since before
    → IsJoin before delta after → IsJoin since delta merged → IsJoin copy merged after
merged_since copy since delta before after merged kept joined is_merged =
    let (all, is_all, whole) = to_right copy since delta after (before, kept, joined) in
    subst (λ (s : State). IsJoin copy s after) (one_join since delta all merged is_all is_merged) whole
