use Rattle.raster_sweeps.proofs.Grown.{grown_up}
use Rattle.band_growth.proofs.seam.close_seam.Goals as goal

pub returns : goal.returns
returns c =
    let limits = c.args.limits.now in
    grown_up c.fill-room.ensures.grown c.spread_waiting.ensures
