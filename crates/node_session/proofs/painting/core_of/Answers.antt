use Rattle.std.proofs.Common.{subst}
use Rattle.grid_core.specs.Raster.{Raster}
use Rattle.reset_core.specs.Starting.{IsBegunWith}
use Rattle.node_session.proofs.painting.core_of.Goals as goal

pub returns-in-Ok : goal.returns-in-Ok
returns-in-Ok g c =
    let plan = c.args.plan in
    subst (λ (mask : Raster). IsBegunWith mask plan.conn plan.side 0 c.args.state c.in-Ok.core) c.into_grid.ensures
    c.in-Ok.ensures.begun
