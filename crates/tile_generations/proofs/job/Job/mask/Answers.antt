-- What the tactics leave open of `mask`.
use Rattle.std.proofs.Common.{subst}
use Rattle.tile_generations.specs.Jobs.{IsJob}
use Rattle.tile_generations.proofs.job.Job.mask.Goals as goal

pub returns-clause-job : goal.returns-clause-job
returns-clause-job c = subst IsJob c.self.view_is c.self.invariant.is_job
