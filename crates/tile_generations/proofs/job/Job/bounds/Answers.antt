-- What the tactics leave open of `bounds`.
use Rattle.std.proofs.Common.{subst}
use Rattle.tile_generations.specs.Jobs.{AreBoundsOf}
use Rattle.tile_generations.proofs.job.Job.bounds.Goals as goal

pub returns : goal.returns
returns c = subst (λ j. AreBoundsOf j c.self.inside.bounds) c.self.view_is c.self.invariant.within
