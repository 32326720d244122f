-- What the tactics leave open of `settle_in_bands`.
use Rattle.tiled_core.proofs.{QuietCores.quiet_is_settled, StoredCore.kept_sound}
use Rattle.tiled_core.proofs.replica.TiledCore.settle_in_bands.Goals as goal

pub returns-then-is_quiet : goal.returns-then-is_quiet
returns-then-is_quiet g c =
    quiet_is_settled c.edges_are_open.ensures c.args.self.now
    (kept_sound c.self.inside c.args.self.now c.self.view_is c.self.invariant)
    (c.is_quiet.ensures.0 c.if-is_quiet.true) c.args.jobs
