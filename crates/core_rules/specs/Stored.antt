-- A core is stored as the parts of its record.
use Rattle.std.specs.Prelude.{ℕ, Bool, List, Option, refl}
use Rattle.std.specs.Coded.{Coded, code_by, coded×, coded_ℕ, coded_bool, coded_list, coded_option}
use Rattle.grid_core.specs.{declared.conn.Conn.Conn, declared.pixel.Pixel.Pixel, Raster.Raster}
use Rattle.grid_core.specs.Stored.{raster_code, conn_code}
use Rattle.stroke_core.specs.Seed.{Seed}
use Rattle.stroke_lattice.specs.{State.State, Stored.state_code}
use Rattle.border_queues.specs.{declared.hint.Hint.Hint, TileWork.TileWork}
use Rattle.core_rules.specs.Work.{Core}

abbrev pub pixel_code : Coded Pixel
pixel_code = code_by (ℕ × ℕ) (coded× coded_ℕ coded_ℕ) (λ p. (p.x, p.y)) (λ p. record { x = p.0; y = p.1 }) (λ _. refl)

abbrev pub hint_code : Coded Hint
hint_code =
    code_by (ℕ × (ℕ × (Pixel × ℕ))) (coded× coded_ℕ (coded× coded_ℕ (coded× pixel_code coded_ℕ)))
    (λ h. (h.from, (h.from_generation, (h.to_pixel, h.value))))
    (λ p. record { from = p.0; from_generation = p.1.0; to_pixel = p.1.1.0; value = p.1.1.1 }) (λ _. refl)

abbrev pub work_code : Coded TileWork
work_code =
    code_by (ℕ × (Bool × (Option ℕ × List Hint)))
    (coded× coded_ℕ (coded× coded_bool (coded× (coded_option coded_ℕ) (coded_list hint_code))))
    (λ w. (w.generation, (w.dirty, (w.out, w.inbox))))
    (λ p. record { generation = p.0; dirty = p.1.0; out = p.1.1.0; inbox = p.1.1.1 }) (λ _. refl)

-- the code of cores, from that of seeds
abbrev pub core_code : Coded Seed → Coded Core
core_code seed_code =
    code_by (Raster × (Conn × (ℕ × (State × (Raster × (List TileWork × ℕ))))))
    (coded× raster_code (coded× conn_code (coded× coded_ℕ (coded× (state_code seed_code)
    (coded× raster_code (coded× (coded_list work_code) coded_ℕ))))))
    (λ c. (c.mask, (c.conn, (c.side, (c.state, (c.image, (c.tiles, c.serial)))))))
    (λ p. record {
      mask = p.0;
      conn = p.1.0;
      side = p.1.1.0;
      state = p.1.1.1.0;
      image = p.1.1.1.1.0;
      tiles = p.1.1.1.1.1.0;
      serial = p.1.1.1.1.1.1;
    }) (λ _. refl)
