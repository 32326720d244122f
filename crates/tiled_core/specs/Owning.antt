-- Jobs that a core gave.
use Rattle.core_rules.specs.{Work.Core, Sweeps.IsOut}
use Rattle.tile_generations.specs.Jobs.{Job}
use Rattle.reset_core.specs.Answers.{IsJoinable}

-- where the job is out it is one of the core's, and its tile is as it was or has only risen since
abbrev pub IsOwn : Core → Job → Type 0
IsOwn core job = IsOut core job.ticket → IsJoinable core job
