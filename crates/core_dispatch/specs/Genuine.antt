-- Jobs that were pushed, which come back as they went. Only private functions have these words in their contracts.
use Rattle.std.specs.Prelude.{◌≡◌, ◌<◌, ℕ, List}
use mathlib.Core.Option.{some}
use lib.ListN.{get_elem?}
use Rattle.tile_generations.specs.Jobs.{Job}
use Rattle.core_rules.specs.Work.{Core}
use Rattle.steal_pool.specs.declared.report.Report.{Report}
use Rattle.steal_pool.specs.declared.report.Report.TheVariants.{Done, Failed}
use Rattle.tiled_core.specs.Owning.{IsOwn}

-- the job is the core's own where it is out, and its serial is below the bound
abbrev pub IsGenuine : Core → ℕ → Job → Type 0
IsGenuine core bound job = IsOwn core job × (job.ticket.serial < bound)

-- so is each of these jobs
abbrev pub AreGenuine : Core → ℕ → List Job → Type 0
AreGenuine core bound jobs = (k : ℕ) (job : Job) → get_elem? jobs k ≡ some job → IsGenuine core bound job

-- what was swept is a job of the core's own, where it is out
abbrev pub IsOwnReport : Core → Report → Type 0
IsOwnReport core (Done swept) = IsOwn core swept.job
IsOwnReport core (Failed ticket) = Unit {0}
