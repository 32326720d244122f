-- A state is stored as the pair of its map and its set.
use Rattle.std.specs.{Prelude.refl, Coded.Coded, Coded.code_by, Coded.coded×, Coded.coded_ℕ, Ordering.nat_cmp}
use Rattle.stroke_core.specs.Seed.{Seed}
use Rattle.stroke_lattice.specs.State.{State}
use Rattle.std.specs.FinMap as map
use Rattle.std.specs.FinSet as set

-- the code of states, from that of seeds
abbrev pub state_code : Coded Seed → Coded State
state_code seed_code =
    code_by (map.FinMap nat_cmp Seed × set.FinSet nat_cmp) (coded× (map.code coded_ℕ seed_code) (set.code coded_ℕ))
    (λ s. (s.strokes, s.tombstones)) (λ p. record { strokes = p.0; tombstones = p.1 }) (λ _. refl)
