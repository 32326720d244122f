-- What a world is stored as, and what is true of each stored world. Private functions cite it; the clauses of the
-- world's looks hand it out.
use Rattle.std.specs.Prelude.{◌≡◌, ℕ, ◌≤◌, List, [], ◌∷◌, length, All, refl}
use Rattle.std.specs.Coded.{Coded, code_by, coded×, coded_ℕ, coded_list}
use Rattle.grid_core.specs.{declared.conn.Conn.Conn, Raster.Raster, Stored.raster_code, Stored.conn_code}
use Rattle.stroke_core.specs.Seed.{Seed}
use Rattle.stroke_lattice.specs.{State.State, Stored.state_code}
use Rattle.tile_generations.specs.Jobs.{Swept}
use Rattle.core_rules.specs.{Work.Core, Stored.core_code}
use Rattle.spd_codec.specs.Spelling.{Spells}
use Rattle.replica_world.specs.World.{Replica, World, no_pixels}

-- the mask of the first replica
abbrev pub mask_of : List Replica → Raster
mask_of [] = no_pixels
mask_of (replica ∷ rest) = replica.core.mask

-- the world that is stored so: the mask is that of its replicas
abbrev pub world_of : Conn → List ℕ → List Replica → List (List ℕ) → List Swept → ℕ → World
world_of conn print replicas packets results steps = record {
  mask = mask_of replicas;
  conn = conn;
  print = print;
  replicas = replicas;
  packets = packets;
  results = results;
  steps = steps;
}

-- the replica's core has this mask and this connectivity
pub record IsOn (mask : Raster) (conn : Conn) (replica : Replica) : Type 0 where
  pub mask_is : replica.core.mask ≡ mask
  pub conn_is : replica.core.conn ≡ conn

-- the packet spells some delta, for this connectivity and this fingerprint
abbrev pub IsFrame : Conn → List ℕ → List ℕ → Type 0
IsFrame conn print packet = (delta : State) × Spells packet conn print delta

-- there are 1 to 16 replicas, on one mask and under one connectivity, and each packet is a frame of theirs
pub record IsStored (conn : Conn) (print : List ℕ) (replicas : List Replica) (packets : List (List ℕ)) : Type 0 where
  pub some : 1 ≤ length replicas
  pub few : length replicas ≤ 16
  pub one_mask : All (IsOn (mask_of replicas) conn) replicas
  pub frames : All (IsFrame conn print) packets

-- the codes of replicas and of worlds, from those of seeds and of results
abbrev pub replica_code : Coded Seed → Coded Replica
replica_code seed_code =
    code_by (Core × List State) (coded× (core_code seed_code) (coded_list (state_code seed_code)))
    (λ r. (r.core, r.took)) (λ p. record { core = p.0; took = p.1 }) (λ _. refl)

abbrev pub world_code : Coded Seed → Coded Swept → Coded World
world_code seed_code swept_code =
    code_by (Raster × (Conn × (List ℕ × (List Replica × (List (List ℕ) × (List Swept × ℕ))))))
    (coded× raster_code (coded× conn_code (coded× (coded_list coded_ℕ)
    (coded× (coded_list (replica_code seed_code)) (coded× (coded_list (coded_list coded_ℕ))
    (coded× (coded_list swept_code) coded_ℕ))))))
    (λ w. (w.mask, (w.conn, (w.print, (w.replicas, (w.packets, (w.results, w.steps)))))))
    (λ p. record {
      mask = p.0;
      conn = p.1.0;
      print = p.1.1.0;
      replicas = p.1.1.1.0;
      packets = p.1.1.1.1.0;
      results = p.1.1.1.1.1.0;
      steps = p.1.1.1.1.1.1;
    }) (λ _. refl)
