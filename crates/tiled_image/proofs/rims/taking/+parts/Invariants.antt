-- The cycle of calls that take over the rims of part after part: the threads get fewer.
use Rattle.std.proofs.Common.{◌+◌, ◌*◌}
use Rattle.tiled_image.proofs.rims.taking.+parts.Given as goal

abbrev pub decreases-take_part : goal.decreases-take_part
decreases-take_part g l = 4 * l.threads

abbrev pub decreases-take_both : goal.decreases-take_both
decreases-take_both g l = 4 * l.threads + 2

abbrev pub decreases-take_both-join_mut+arg3 : goal.decreases-take_both-join_mut+arg3
decreases-take_both-join_mut+arg3 g l = 4 * l.threads + 1
