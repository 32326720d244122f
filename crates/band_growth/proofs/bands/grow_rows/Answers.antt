use Rattle.raster_sweeps.proofs.Grown.{grown_up}
use Rattle.band_growth.proofs.bands.grow_rows.Goals as goal

pub returns-then-not-grow_bands : goal.returns-then-not-grow_bands
returns-then-not-grow_bands g c =
    let limits = c.args.limits.now in
    grown_up c.grow_bands.ensures.grown c.close_bands.ensures
