use Rattle.std.proofs.Common.{◌+◌, ◌*◌, length}
use Rattle.reset_core.proofs.replica.bands.+bands.Given as goal

abbrev pub decreases-sweep_downwards : goal.decreases-sweep_downwards
decreases-sweep_downwards g l = 4 * length l.bands.now

abbrev pub decreases-sweep_both : goal.decreases-sweep_both
decreases-sweep_both g l = 4 * length l.rest.now + 2

abbrev pub decreases-sweep_both-join_mut+arg3 : goal.decreases-sweep_both-join_mut+arg3
decreases-sweep_both-join_mut+arg3 g l = 4 * length l.rest.now + 1
