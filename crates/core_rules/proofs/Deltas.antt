-- Deltas that a core takes, one after another: its strokes are the join of what it had and of them, and its mask stays.
use Rattle.std.proofs.Common.{◌≡◌, List, [], ◌∷◌, ◌++◌, ap, ◌∙◌, append_assoc}
use Rattle.std.proofs.lemmas.List.{append-nil}
use Rattle.stroke_lattice.specs.State.{State, IsJoinOf}
use Rattle.stroke_lattice.proofs.Joins.{longer_from_join}
use Rattle.core_rules.specs.{Work.Core, Merge.AreTaken}
use Rattle.core_rules.proofs.Schedules.{join_of_one}

pub taken_deltas_keep_the_mask : (start core : Core) (deltas : List State) → AreTaken start deltas core
    → core.mask ≡ start.mask
taken_deltas_keep_the_mask start core [] same = ap (λ (c : Core). c.mask) same
taken_deltas_keep_the_mask start core (delta ∷ deltas) (next, turnover, merged, rest) =
    taken_deltas_keep_the_mask next core deltas rest ∙ ap (λ (c : Core). c.mask) merged.rest

-- the strokes at the start are a join, and those at the end are that of the longer list
joined_behind : (start core : Core) (front deltas : List State) → IsJoinOf front start.state
    → AreTaken start deltas core → IsJoinOf (front ++ deltas) core.state
joined_behind start core front [] joined same = rw (append-nil front, same) joined
joined_behind start core front (delta ∷ deltas) joined (next, turnover, merged, rest) =
    rw (append_assoc front (delta ∷ []) deltas) at (joined_behind next core (front ++ delta ∷ []) deltas
    (longer_from_join front start.state delta next.state joined merged.join) rest)

pub taken_deltas_are_joined : (start core : Core) (deltas : List State) → AreTaken start deltas core
    → IsJoinOf (start.state ∷ deltas) core.state
taken_deltas_are_joined start core deltas taken =
    joined_behind start core (start.state ∷ []) deltas (join_of_one start.state) taken
