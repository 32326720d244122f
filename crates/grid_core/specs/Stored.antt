-- How a raster and a connectivity are stored: as the parts of their records.
use Rattle.std.specs.Prelude.{◌≡◌, ℕ, Bool, true, false, List, refl}
use Rattle.std.specs.Coded.{Coded, code_by, coded×, coded_ℕ, coded_bool, coded_list}
use Rattle.grid_core.specs.{declared.conn.Conn.Conn, Raster.Raster}
use Rattle.grid_core.specs.declared.conn.Conn.TheVariants.{Four, Eight}

abbrev pub raster_code : Coded Raster
raster_code =
    code_by (ℕ × (ℕ × List ℕ)) (coded× coded_ℕ (coded× coded_ℕ (coded_list coded_ℕ)))
    (λ r. (r.width, (r.height, r.cells))) (λ p. record { width = p.0; height = p.1.0; cells = p.1.1 }) (λ _. refl)

abbrev pub is_eight : Conn → Bool
is_eight Four = false
is_eight Eight = true

abbrev pub conn_of : Bool → Conn
conn_of false = Four
conn_of true = Eight

abbrev pub conn_back : (conn : Conn) → conn_of (is_eight conn) ≡ conn
conn_back Four = refl
conn_back Eight = refl

abbrev pub conn_code : Coded Conn
conn_code = code_by Bool coded_bool is_eight conn_of conn_back
