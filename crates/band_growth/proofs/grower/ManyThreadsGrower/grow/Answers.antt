use Rattle.band_growth.proofs.Sharing.{shared_sync}
use Rattle.band_growth.proofs.grower.ManyThreadsGrower.grow.Goals as goal

pub grow_in_place_on-requires-sync-R : goal.grow_in_place_on-requires-sync-R
grow_in_place_on-requires-sync-R g c κs within = shared_sync _ c.args.self.now.may_share
