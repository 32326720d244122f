use Rattle.std.proofs.Common.{◌+◌, ◌*◌}
use Rattle.raster_sweeps.proofs.blanks.+beside.Given as goal

abbrev pub decreases-Blanks::beside : goal.decreases-Blanks::beside
decreases-Blanks::beside g l = 2 * l.images

abbrev pub decreases-work_and_others : goal.decreases-work_and_others
decreases-work_and_others g l = 2 * l.others + 1
