use Rattle.std.proofs.Common.{◌+◌, ◌-◌, ◌*◌, max, length}
use Rattle.band_growth.proofs.bands.+bands.Given as goal

abbrev pub decreases-grow_bands : goal.decreases-grow_bands
decreases-grow_bands g l = 4 * length l.queues.now

abbrev pub decreases-grow_halves : goal.decreases-grow_halves
decreases-grow_halves g l = 4 * length l.queues.now - 1

abbrev pub decreases-grow_both : goal.decreases-grow_both
decreases-grow_both g l = 4 * max (length l.first.now) (length l.second.now) + 2

abbrev pub decreases-grow_both-join_mut+arg2 : goal.decreases-grow_both-join_mut+arg2
decreases-grow_both-join_mut+arg2 g l = 4 * length l.first.now + 1

abbrev pub decreases-grow_both-join_mut+arg3 : goal.decreases-grow_both-join_mut+arg3
decreases-grow_both-join_mut+arg3 g l = 4 * length l.second.now + 1
