use Rattle.std.proofs.Common.{◌≡◌, replicate}
use Rattle.replica_world.specs.Opening.{fresh_replica}
use Rattle.replica_world.proofs.world.open_replicas.Given as goal

abbrev pub invariant-loop-replica : goal.invariant-loop-replica
invariant-loop-replica l = l.replicas.items ≡ replicate l._replica (fresh_replica l.mask.raster l.conn)
