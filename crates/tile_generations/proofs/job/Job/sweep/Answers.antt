use Rattle.tile_generations.proofs.Sweeping.{swept_job}
use Rattle.tile_generations.proofs.job.Job.sweep.Goals as goal

pub new-requires : goal.new-requires
new-requires c =
    swept_job c.args.self c.mask-mask.result.now c.base-base.result.now c.in-Ok.pixels c.conn-conn.result
    c.mask-mask.ensures.value c.base-base.ensures.value c.conn-conn.ensures c.mask-mask.ensures.job
    c.in-Ok.ensures.filled c.in-Ok.ensures.width c.in-Ok.ensures.height c.in-Ok.ensures.reconstruction
