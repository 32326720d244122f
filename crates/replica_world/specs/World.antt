-- A world of replicas as plain data: the replicas, the packets that were sent, and the results of the jobs that were
-- taken.
use Rattle.std.specs.Prelude.{ℕ, ◌<◌, ◌++◌, List, [], ◌∷◌, length, slice_index_or, slice_set}
use Rattle.grid_core.specs.{declared.conn.Conn.Conn, declared.conn.Conn.TheVariants.Four, Raster.Raster}
use Rattle.stroke_lattice.specs.State.{State}
use Rattle.tile_generations.specs.Jobs.{Swept}
use Rattle.core_rules.specs.{Work.Core, Opening.opened}

-- a replica: its core, and the deltas that it took, one after another
pub record Replica : Type 0 where
  pub core : Core
  pub took : List State

-- a world: the mask of its replicas, which pixels are neighbours, the fingerprint of the mask, the replicas, every
-- packet that was ever sent, every result that was ever kept, and the number of events that the last run brought to an
-- end
pub record World : Type 0 where
  pub mask : Raster
  pub conn : Conn
  pub print : List ℕ
  pub replicas : List Replica
  pub packets : List (List ℕ)
  pub results : List Swept
  pub steps : ℕ

-- the world has a replica of this number
abbrev pub IsReplica : World → ℕ → Type 0
IsReplica world r = r < length world.replicas

-- an image without pixels, and the replica that is read where there is none
abbrev pub no_pixels : Raster
no_pixels = record { width = 0; height = 0; cells = [] }

abbrev pub nobody : Replica
nobody = record { core = opened no_pixels Four 64 0; took = [] }

-- the replica of this number, and its core
abbrev pub replica_at : World → ℕ → Replica
replica_at world r = slice_index_or world.replicas r nobody

abbrev pub core_at : World → ℕ → Core
core_at world r = (replica_at world r).core

-- the world with another replica of this number
abbrev pub with_replica : World → ℕ → Replica → World
with_replica world r replica = record world { replicas = slice_set world.replicas r replica }

-- the world in which that replica has another core, and took what it took before
abbrev pub with_core : World → ℕ → Core → World
with_core world r core = with_replica world r (record (replica_at world r) { core = core })

-- the world in which that replica has another core, and took one delta more
abbrev pub with_taken : World → ℕ → Core → State → World
with_taken world r core delta =
    with_replica world r (record { core = core; took = (replica_at world r).took ++ delta ∷ [] })
