-- A shot is stored as the parts of its record.
use Rattle.std.specs.{Prelude.Bool, Prelude.refl, Coded.Coded, Coded.code_by, Coded.coded×, Coded.coded_bool}
use Rattle.grid_core.specs.{declared.conn.Conn.Conn, Raster.Raster, Stored.raster_code, Stored.conn_code}
use Rattle.stroke_core.specs.Seed.{Seed}
use Rattle.stroke_lattice.specs.{State.State, Stored.state_code}
use Rattle.studio.specs.Shots.{Shot}

-- the code of shots, from that of seeds
abbrev pub shot_code : Coded Seed → Coded Shot
shot_code seed_code =
    code_by (Raster × (Conn × (State × (Raster × Bool))))
    (coded× raster_code (coded× conn_code (coded× (state_code seed_code) (coded× raster_code coded_bool))))
    (λ s. (s.mask, (s.conn, (s.state, (s.image, s.quiet)))))
    (λ p. record { mask = p.0; conn = p.1.0; state = p.1.1.0; image = p.1.1.1.0; quiet = p.1.1.1.1 }) (λ _. refl)
