use Rattle.raster_sweeps.proofs.Grown.{grown_twice}
use Rattle.band_growth.proofs.bands.+run_down_cuts.Goals as goal

pub returns : goal.returns
returns t c = grown_twice (grown_twice c.run_down_cuts.ensures c.run_down.ensures.grown) c.run_down_cuts-2.ensures
