use Rattle.std.proofs.Common.{◌≤◌, length, vec_len, vec_capacity}
use Rattle.replica_world.proofs.Events.{HaveRun}
use Rattle.replica_world.proofs.world.World.run.Given as goal

abbrev pub invariant-loop-i : goal.invariant-loop-i
invariant-loop-i l =
    HaveRun l.fn.self l.events l.i l.self l.refusals.items × (vec_len l.refusals ≤ l.i)
    × (length l.events ≤ vec_capacity l.refusals)
