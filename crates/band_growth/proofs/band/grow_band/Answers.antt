use Rattle.raster_sweeps.proofs.Grown.{grown_twice}
use Rattle.band_growth.proofs.band.grow_band.Goals as goal

pub returns : goal.returns
returns c = record {
  grown = grown_twice (rw c.all_of.ensures at c.scan_down.ensures.grown) c.close_upwards.ensures.grown;
  closed = λ yes. c.close_upwards.ensures.closed;
}
