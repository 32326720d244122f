-- What each step of a seat leaves in its view. Only private functions have these words in their contracts.
use Rattle.std.specs.Prelude.{◌+◌, Contains, List, [], ℕ, ◌≡◌, ◌≤◌}
use Rattle.atomic_table.specs.{Seated.TableId, Table.Me, Table.State, Table.Step, declared.shared.Seat.Seat}
use Rattle.grid_core.specs.{Raster.Raster, declared.pixel.Pixel.Pixel}
use lib.ListN.{get_elem?}
use mathlib.Core.Option.{some}
use Rattle.live_board.specs.{Rule.IsBoard, declared.fact.Fact.Fact, declared.rule.Ground.Ground}
use Rattle.live_board.specs.{declared.rule.SeatView.SeatView}
use Rattle.live_board.specs.Words.{Supports, begun, fact_of, number, taught, with_fact}

-- no known fact of the pixel stands for more than the number
abbrev pub IsHighest : List Fact → Pixel → ℕ → Type 0
IsHighest facts p n = (f : Fact) → Contains facts f → f.pixel ≡ p → number f ≤ n

-- a fetch_max on a pixel's word leaves the fact that it asked for
abbrev pub Lifts : Pixel → Step ℕ → Me ℕ SeatView → ℕ → Me ℕ SeatView → Type 0
Lifts p st m n m' = m' ≡ (with_fact m.0 st.word n (fact_of p st.first), m.1)

-- a load of a pixel's word leaves the fact that it found, which is no less than any known one
abbrev pub Reads : Pixel → Step ℕ → Me ℕ SeatView → ℕ → Me ℕ SeatView → Type 0
Reads p st m n m' = (m' ≡ (with_fact m.0 st.word n (fact_of p n), m.1)) × IsHighest m.0.facts p n

-- a load teaches the generation, and is one of word 0
abbrev pub Learns : Step ℕ → Me ℕ SeatView → ℕ → Me ℕ SeatView → Type 0
Learns st m n m' = (st.word ≡ 0) × (m' ≡ (taught m.0 n, m.1))

-- an addition brings the next generation and a marker, and is one to word 0
abbrev pub Advances : Raster → Step ℕ → Me ℕ SeatView → ℕ → Me ℕ SeatView → Type 0
Advances marker st m n m' = (st.word ≡ 0) × (m' ≡ (begun m.0 n (m.0.generation + 1) marker, m.1))

-- the same, which brings a marker in the same generation
abbrev pub Rises : Raster → Step ℕ → Me ℕ SeatView → ℕ → Me ℕ SeatView → Type 0
Rises marker st m n m' = (st.word ≡ 0) × (m' ≡ (begun m.0 n m.0.generation marker, m.1))

-- the seat is of this table, and holds no slot
pub record IsBare (table : TableId) (seat : Seat ℕ SeatView) : Type 0 where
  pub table_is : seat.table_id ≡ table
  pub bare : seat.me.1 ≡ []

-- a fact that may be known in a generation with this marker: it is of no later one, and where it is of that one the
-- pixel reaches its value
abbrev pub IsAllowed : Ground → ℕ → Raster → Fact → Type 0
IsAllowed base generation marker f =
    (f.generation ≤ generation) × (f.generation ≡ generation → Supports base marker f.pixel f.value)

-- whatever the board is while the seat has this view, the pixel's word may become at least the number
abbrev pub MayLift : Ground → ℕ → SeatView → Pixel → ℕ → Type 0
MayLift base id v p n =
    (s : State ℕ SeatView) (board : IsBoard base s) → get_elem? s.views id ≡ some v
    → IsAllowed base board.generation board.marker (fact_of p n)
