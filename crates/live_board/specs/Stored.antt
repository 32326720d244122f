-- The ground of a board is stored as the parts of its record.
use Rattle.std.specs.{Coded.Coded, Coded.code_by, Coded.coded_ℕ, Coded.coded×, Prelude.refl, Prelude.ℕ}
use Rattle.grid_core.specs.{Raster.Raster, Stored.conn_code, Stored.raster_code, declared.conn.Conn.Conn}
use Rattle.pgm_codec.specs.Graymap.{Graymap}
use Rattle.live_board.specs.declared.rule.Ground.{Ground}

abbrev pub graymap_code : Coded Graymap
graymap_code =
    code_by (Raster × ℕ) (coded× raster_code coded_ℕ) (λ g. (g.raster, g.maxval))
    (λ p. record { raster = p.0; maxval = p.1 }) (λ _. refl)

abbrev pub ground_code : Coded Ground
ground_code =
    code_by (Graymap × (Conn × ℕ)) (coded× graymap_code (coded× conn_code coded_ℕ))
    (λ g. (g.mask, (g.conn, g.first))) (λ p. record { mask = p.0; conn = p.1.0; first = p.1.1 }) (λ _. refl)
