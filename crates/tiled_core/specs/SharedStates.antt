-- Copies of strokes that were given out, and what was merged since each was made.
use Rattle.std.specs.Prelude.{IfSome}
use Rattle.std.specs.Arc.{arc_value}
use Rattle.stroke_lattice.specs.State.{State, IsJoin}
use Rattle.tiled_core.specs.declared.shared_states.KeptState.{KeptState}
use Rattle.tiled_core.specs.declared.shared_states.SharedStates.{SharedStates}

-- the strokes are those of the copy and what was merged since
abbrev pub IsKeptFor : State → KeptState → Type 0
IsKeptFor state kept = IsJoin (arc_value kept.copy) kept.since state

-- so with each copy that is still there
pub record AreStates (state : State) (states : SharedStates) : Type 0 where
  pub last : IfSome states.last (IsKeptFor state)
  pub older : IfSome states.older (IsKeptFor state)
  pub oldest : IfSome states.oldest (IsKeptFor state)
