use Rattle.raster_sweeps.proofs.OpenRows.{downward_joined, last_row_closed}
use Rattle.raster_sweeps.proofs.open_pairs.queue_downward.Goals as goal

pub returns-then-y-rect : goal.returns-then-y-rect
returns-then-y-rect c = last_row_closed c.args.y c.if-y-rect.true c.requires.scanned

pub returns : goal.returns
returns c = downward_joined c.args.y c.requires.scanned c.queue_between.ensures
