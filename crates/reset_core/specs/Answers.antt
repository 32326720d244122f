-- What the core's methods answer. Public functions have these words in their contracts.
use Rattle.std.specs.Prelude.{◌≡◌, ◌⊎◌, ◌↔◌, ℕ, ◌<◌, ◌≤◌, Bool, List, IsTrue}
use Rattle.grid_core.specs.{declared.conn.Conn.Conn, Raster.Raster, Raster.IsSized, Raster.IsBelow, Tiles.IsTileSide}
use Rattle.stroke_lattice.specs.State.{State}
use Rattle.tile_generations.specs.Jobs.{Job}
use Rattle.core_rules.specs.{declared.error.CoreError.CoreError, declared.step.Step.Step, Work.Core, Work.IsQuiet}
use Rattle.core_rules.specs.{Opening.opened, Invariant.HasLawfulImage, Invariant.HasReconstruction, Merge.IsRefused}
use Rattle.core_rules.specs.{Merge.IsAcceptable, Counting.IsWithinWork, Counting.Owes, Counting.tiles_out}
use Rattle.core_rules.specs.{Counting.merges_of, Runs.IsRun}
use Rattle.core_rules.specs.Sweeps.{IsKnown, IsOut, IsUnchanged, HasOnlyRisen}
use Rattle.core_rules.specs.Runs.{Entry, IsDirty, IsSettling, IsSettled, IsCutShort, IsTakenIn, jobs_of, abandons_of}
use Rattle.core_rules.specs.Schedule.{Progress, Ran, AreSteps, started, ran_of}
use Rattle.tile_work.specs.TileSet.{HasGained}
use Rattle.reset_core.specs.{declared.replica.settling.Count.Count, declared.replica.settling.Slice.Slice}
use Rattle.core_rules.specs.declared.error.CoreError.TheVariants as errors

-- the core is one of this mask before anything happened, and its side is one that tiles may have
abbrev pub IsOpened : Raster → Conn → ℕ → ℕ → Core → Type 0
IsOpened mask conn side first core = (core ≡ opened mask conn side first) × IsTileSide side

-- why no core was opened: tiles may not have the side, or they may and memory was wanting
abbrev pub IsNotOpened : ℕ → CoreError → Type 0
IsNotOpened side why =
    ((why ≡ errors.BadSide) × (IsTileSide side → ⊥)) ⊎ ((why ≡ errors.Memory) × IsTileSide side)

-- the image is the core's: it has a value for each pixel, is nowhere above the mask and lies between the marker of the
-- strokes and the reconstruction of the mask from it, and where no work is left it is that reconstruction
pub record IsImageOf (core : Core) (image : Raster) : Type 0 where
  pub value : image ≡ core.image
  pub sized : IsSized core.image
  pub below : IsBelow core.image core.mask
  pub lawful : HasLawfulImage core
  pub quiet : IsQuiet core → HasReconstruction core

-- why a delta was not merged: the core refuses it, or would take it and memory was wanting
abbrev pub IsNotMerged : Core → State → CoreError → Type 0
IsNotMerged core delta why = IsRefused core delta why ⊎ ((why ≡ errors.Memory) × IsAcceptable core delta)

-- the job is one of the core's and out, and its tile is as it was or has only risen since
pub record IsJoinable (core : Core) (job : Job) : Type 0 where
  pub known : IsKnown core job
  pub out : IsOut core job.ticket
  pub base : IsUnchanged core job ⊎ HasOnlyRisen core job

-- settling came to its end, and this is what it took: as many tiles were swept as such events say, no more than there
-- was work, no work is owed, and each job that was out was abandoned
pub record IsSettledBy (before : Core) (count : Count) (after : Core) : Type 0 where
  pub settled :
      (log : List Entry) × IsSettled before log after × (count.jobs ≡ jobs_of log)
      × (count.abandons ≡ abandons_of log)
  pub bound : IsWithinWork before after count.jobs count.abandons
  pub owes_nothing : Owes after 0
  pub abandons_are : count.abandons ≡ tiles_out before

-- a slice of settling: the set has gained the tiles that were swept, which were no more than the limit, and fewer only
-- where no work is left; each job that was out was abandoned
pub record IsSlice (before : Core) (old : List Bool) (limit : ℕ) (slice : Slice) (after : Core) (new : List Bool)
    : Type 0 where
  pub log : List Entry
  pub settling : IsSettling before log after
  pub jobs_are : slice.count.jobs ≡ jobs_of log
  pub abandons_are : slice.count.abandons ≡ abandons_of log
  pub swept : HasGained old (IsTakenIn log) new
  pub at_most : slice.count.jobs ≤ limit
  pub to_the_end : slice.count.jobs < limit → IsQuiet after
  pub quiet : IsTrue slice.is_quiet ↔ IsQuiet after
  pub bound : IsWithinWork before after slice.count.jobs slice.count.abandons
  pub each_out : slice.count.abandons ≡ tiles_out before

-- a slice that ended for want of memory: the set has gained the tiles that were swept
abbrev pub IsSliceCutShort : Core → List Bool → Core → List Bool → Type 0
IsSliceCutShort before old after new =
    (log : List Entry) × IsCutShort before log after × HasGained old (IsTakenIn log) new

-- the steps of a schedule were run, and this is what it did
abbrev pub HaveRun : Core → List Step → Ran → Core → Type 0
HaveRun before steps ran after =
    (end : Progress) × AreSteps steps (started before) end × (ran ≡ ran_of end) × (after ≡ end.core)

-- events without a merge lead from the one core to the other: so many take a job and so many abandon one, and the set
-- has gained the tiles that were taken
pub record IsRunWith (before : Core) (old : List Bool) (jobs abandons : ℕ) (after : Core) (new : List Bool)
    : Type 0 where
  pub log : List Entry
  pub run : IsRun before log after
  pub none_merged : merges_of log ≡ 0
  pub jobs_are : jobs ≡ jobs_of log
  pub abandons_are : abandons ≡ abandons_of log
  pub swept : HasGained old (IsTakenIn log) new

-- a slice of settling in whatever order: the set has gained the tiles that were swept, which were no more than the
-- limit, and fewer only where no work is left; no more were swept than there was work, and each job that was out was
-- abandoned
pub record IsSliceInBands (before : Core) (old : List Bool) (limit : ℕ) (slice : Slice) (after : Core) (new : List Bool)
    : Type 0 where
  pub run : IsRunWith before old slice.count.jobs slice.count.abandons after new
  pub at_most : slice.count.jobs ≤ limit
  pub to_the_end : slice.count.jobs < limit → IsQuiet after
  pub quiet : IsTrue slice.is_quiet ↔ IsQuiet after
  pub bound : IsWithinWork before after slice.count.jobs slice.count.abandons
  pub each_out : slice.count.abandons ≡ tiles_out before

-- such a slice that ended for want of memory, where a tile has still to be swept
pub record IsRunCutShort (before : Core) (old : List Bool) (after : Core) (new : List Bool) : Type 0 where
  pub jobs : ℕ
  pub abandons : ℕ
  pub run : IsRunWith before old jobs abandons after new
  pub some_dirty : (t : ℕ) × IsDirty after t
