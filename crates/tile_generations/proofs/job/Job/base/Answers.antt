-- What the tactics leave open of `base`.
use Rattle.std.proofs.Common.{subst}
use Rattle.tile_generations.specs.Jobs.{IsJob}
use Rattle.tile_generations.proofs.job.Job.base.Goals as goal

pub returns-clause-job : goal.returns-clause-job
returns-clause-job c = subst IsJob c.self.view_is c.self.invariant.is_job
