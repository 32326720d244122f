use Rattle.raster_sweeps.proofs.OpenBounds.{reconstruction_begins_nowhere}
use Rattle.raster_sweeps.proofs.laws.reconstruction_begins_nowhere.Goals as goal

pub returns : goal.returns
returns c = reconstruction_begins_nowhere
