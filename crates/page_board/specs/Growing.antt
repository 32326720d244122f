-- What a slice of settling does to a board.
use Rattle.std.specs.Prelude.{◌≡◌, ℕ, ◌<◌, ◌≤◌, ◌⊎◌, Bool, List, Result, Ok, Err}
use Rattle.byte_devices.specs.Device.{count_after}
use Rattle.core_rules.specs.Work.{Core, IsQuiet}
use Rattle.core_rules.specs.Runs.{Entry, IsRun, IsDirty, IsTakenIn, NoneOut, abandons_of, jobs_of}
use Rattle.core_rules.specs.Counting.{merges_of, tiles_out}
use Rattle.reset_core.specs.declared.replica.settling.Slice.{Slice}
use Rattle.page_board.specs.{Board.PageBoard, Marking.AreMarkedWhere}

-- the core settled for so many jobs, or for fewer and no work is left: events without a merge lead there, in whatever
-- order; as many jobs were abandoned as were out, and none is out then
pub record IsSettledFor (before : Core) (jobs : ℕ) (after : Core) : Type 0 where
  pub log : List Entry
  pub run : IsRun before log after
  pub none_merged : merges_of log ≡ 0
  pub each_out : abandons_of log ≡ tiles_out before
  pub none_out : NoneOut after
  pub at_most : jobs_of log ≤ jobs
  pub to_the_end : jobs_of log < jobs → IsQuiet after

-- the core settled for at most so many jobs, or memory ran out where a tile has still to be swept
pub record IsWorkedOn (before : Core) (jobs : ℕ) (after : Core) : Type 0 where
  pub log : List Entry
  pub run : IsRun before log after
  pub none_merged : merges_of log ≡ 0
  pub none_out : NoneOut after
  pub ends : (jobs_of log ≤ jobs) ⊎ ((t : ℕ) × IsDirty after t)

-- the tile was swept, or has still to be swept
abbrev pub IsMoving : List Entry → Core → ℕ → Type 0
IsMoving log after t = IsTakenIn log t ⊎ IsDirty after t

-- a slice of settling: such tiles have a new step, the next one, and the others theirs; where there are none it is no
-- step more; and only the core, the step and the steps of tiles change
pub record IsGrown (old : PageBoard) (jobs : ℕ) (new : PageBoard) : Type 0 where
  pub worked : IsWorkedOn old.core jobs new.core
  pub marked : AreMarkedWhere (IsMoving worked.log new.core) new.step old.shown new.shown
  pub next : (t : ℕ) → IsMoving worked.log new.core t → new.step ≡ count_after old.step 1
  pub still : ((t : ℕ) → IsMoving worked.log new.core t → ⊥) → new.step ≡ old.step
  pub rest : new ≡ record old { core = new.core; step = new.step; shown = new.shown }

-- what is told of a slice: whether no work is left. Only private functions have this word in their contracts
abbrev pub quiet_of : {E : Type 0} → Result Slice E → Result Bool E
quiet_of (Ok slice) = Ok slice.is_quiet
quiet_of (Err e) = Err e
