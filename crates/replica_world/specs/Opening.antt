-- A world as it is opened.
use Rattle.std.specs.Prelude.{ℕ, List, [], replicate}
use Rattle.grid_core.specs.{declared.conn.Conn.Conn, Raster.Raster}
use Rattle.core_rules.specs.Opening.{opened}
use Rattle.replica_world.specs.World.{Replica, World}

-- a replica before anything happened, whose tiles have side 64 and begin with generation 0: it took nothing
abbrev pub fresh_replica : Raster → Conn → Replica
fresh_replica mask conn = record { core = opened mask conn 64 0; took = [] }

-- the world of so many replicas before anything happened: no packet was sent, and no result is kept
abbrev pub opened_world : Raster → Conn → List ℕ → ℕ → World
opened_world mask conn print n = record {
  mask = mask;
  conn = conn;
  print = print;
  replicas = replicate n (fresh_replica mask conn);
  packets = [];
  results = [];
  steps = 0;
}
