use Rattle.raster_sweeps.proofs.Grown.{grown_up}
use Rattle.band_growth.proofs.bands.close_bands.Goals as goal

pub returns : goal.returns
returns c =
    let limits = c.args.limits.now in
    grown_up c.run_down_cuts.ensures c.close_upwards.ensures
