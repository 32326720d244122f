-- What the rule of a board says to who reads it, as laws.
use Rattle.std.specs.Prelude.{Contains, slice_index, ℕ, ◌≡◌, ◌≤◌}
use Rattle.atomic_table.specs.Table.{State}
use Rattle.grid_core.specs.declared.pixel.Pixel.{Pixel}
use lib.ListN.{get_elem?}
use mathlib.Core.Option.{some}
use Rattle.live_board.specs.{Rounds.HasGoneRound, Rounds.IsRound, Rule.AreFound, Rule.IsBoard, Seats.HasPeeked}
use Rattle.live_board.specs.{declared.fact.Fact.Fact, declared.rule.Ground.Ground}
use Rattle.live_board.specs.{declared.fact.Peek.TheVariants.Live, declared.rule.SeatView.SeatView}
use Rattle.live_board.specs.Words.{Supports, number, place_of}

-- the board keeps its rule, and its keeper's seat and another one have these views
pub record HaveViews (base : Ground) (s : State ℕ SeatView) (keeper : SeatView) (id : ℕ) (v : SeatView) : Type 0 where
  pub rule : IsBoard base s
  pub keeper_is : get_elem? s.views 0 ≡ some keeper
  pub seat_is : get_elem? s.views id ≡ some v

-- the word of a pixel is no less than a fact that a seat knows of it
abbrev pub KnownIsKept : Type 0
KnownIsKept =
    (base : Ground) (s : State ℕ SeatView) (keeper : SeatView) (id : ℕ) (v : SeatView) (f : Fact)
    → HaveViews base s keeper id v → Contains v.facts f → number f ≤ slice_index s.words (place_of base f.pixel)

-- nor is it less than what a step of a seat found there
abbrev pub FoundIsKept : Type 0
FoundIsKept =
    (base : Ground) (s : State ℕ SeatView) (keeper : SeatView) (id : ℕ) (v : SeatView)
    → HaveViews base s keeper id v → AreFound base s.words v.steps

-- where a known fact is of the keeper's generation, the pixel reaches its value from the keeper's marker
abbrev pub KnownIsReached : Type 0
KnownIsReached =
    (base : Ground) (s : State ℕ SeatView) (keeper : SeatView) (id : ℕ) (v : SeatView) (f : Fact)
    → HaveViews base s keeper id v → Contains v.facts f → f.generation ≡ keeper.generation
    → Supports base keeper.marker f.pixel f.value

-- as a peek that finds a live value ends, word 0 being what its last step found there, the pixel reaches the value from
-- the keeper's marker
abbrev pub LiveIsReached : Type 0
LiveIsReached =
    (base : Ground) (s : State ℕ SeatView) (keeper : SeatView) (id : ℕ) (old new : SeatView) (p : Pixel) (value : ℕ)
    → HaveViews base s keeper id new → (peeked : HasPeeked base p (Live value) old new)
    → slice_index s.words 0 ≡ peeked.found → Supports base keeper.marker p value

-- a round leaves this
abbrev pub RoundCounts : Type 0
RoundCounts =
    (base : Ground) (count : ℕ) (old new : SeatView) → IsRound base count old new → HasGoneRound base count old new

-- what a hand knows before a round and after it leaves one count
abbrev pub OneCount : Type 0
OneCount =
    (base : Ground) (one other : ℕ) (old new : SeatView) → IsRound base one old new → IsRound base other old new
    → one ≡ other

-- what seats know of a board
pub record BoardLaws : Type 0 where
  pub known_is_kept : KnownIsKept
  pub found_is_kept : FoundIsKept
  pub known_is_reached : KnownIsReached
  pub live_is_reached : LiveIsReached
  pub round_counts : RoundCounts
  pub one_count : OneCount
