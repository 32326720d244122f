-- Cores that settle over an image in tiles.
use Rattle.std.specs.Prelude.{◌≡◌, ◌⊎◌, ℕ, Bool, false, List, length, replicate, Result, IfOk, OnErr}
use Rattle.grid_core.specs.{Raster.Raster, declared.memory.Memory.Memory}
use Rattle.core_rules.specs.{Work.Core, Work.IsQuiet, Runs.Entry, Runs.IsRun, Runs.NoneOut, Counting.merges_of}
use Rattle.reset_core.specs.{Answers.IsSliceInBands, Replica.core_of, Replica.stored_as}
use Rattle.reset_core.specs.declared.replica.Core.TheInside.{Inside as Parts}
use Rattle.reset_core.specs.{declared.replica.settling.Slice.Slice, declared.replica.stored.CoreParts.CoreParts}

-- what a core stores of which this is the image
abbrev pub parts_with : Raster → CoreParts → Parts
parts_with image held = record (stored_as held) { image = image }

-- the core that is stored so
abbrev pub core_with : Raster → CoreParts → Core
core_with image held = core_of (parts_with image held)

-- a slice of settling in bands, of whatever tiles
abbrev pub IsSettledInBands : Core → ℕ → Slice → Core → Type 0
IsSettledInBands before limit slice after =
    (swept : List Bool) × IsSliceInBands before (replicate (length before.tiles) false) limit slice after swept

-- events without a merge lead from the one core to the other
abbrev pub HasWorkedOn : Core → Core → Type 0
HasWorkedOn before after = (log : List Entry) × IsRun before log after × (merges_of log ≡ 0)

-- what a slice of settling in bands answers, and what it leaves; after memory was wanting, too, there were but events
-- without a merge, and either nothing happened or no job is out
pub record HasSettled (before : Core) (limit : ℕ) (answer : Result Slice Memory) (after : Core) : Type 0 where
  pub slice : IfOk answer (λ slice. IsSettledInBands before limit slice after)
  pub none_out : IfOk answer (λ _. NoneOut after)
  pub cut_short : OnErr answer ((after ≡ before) ⊎ NoneOut after)
  pub worked_on : HasWorkedOn before after

-- the same; memory is wanting only where there was work, and a core without work stays as it is
pub record IsSettledFor (before : Core) (limit : ℕ) (answer : Result Slice Memory) (after : Core) : Type 0 where
  pub settled : HasSettled before limit answer after
  pub some_work : OnErr answer (IsQuiet before → ⊥)
  pub quiet : IsQuiet before → after ≡ before
