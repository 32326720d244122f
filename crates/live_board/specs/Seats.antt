-- What contracts say of boards and their seats.
use Rattle.std.specs.Prelude.{◌+◌, ◌++◌, ◌/◌, ◌<◌, Bool, Contains, IsTrue, List, [], min, ℕ, ◌↔◌, ◌∷◌, ◌≡◌, ◌≤◌}
use Rattle.atomic_table.specs.Seated.{TableId}
use Rattle.grid_core.specs.{Neighbours.AreNeighbours, declared.pixel.Pixel.Pixel}
use Rattle.grid_core.specs.Raster.{IsBelow, Raster, value_at}
use Rattle.live_board.specs.Words.{IsOn, fact, mask_of, number, place_of}
use Rattle.live_board.specs.{declared.board.Board.Board, declared.fact.Fact.Fact, declared.fact.Peek.Peek}
use Rattle.live_board.specs.{declared.fact.Seen.Seen, declared.hand.HandSeat.HandSeat}
use Rattle.live_board.specs.{declared.keeper.KeeperSeat.KeeperSeat, declared.peek.PeekSeat.PeekSeat}
use Rattle.live_board.specs.{declared.rule.Ground.Ground, declared.rule.SeatView.SeatView}
use Rattle.live_board.specs.declared.fact.Peek.TheVariants.{Live, Moved}
use Rattle.live_board.specs.declared.fact.Seen.TheVariants.{Newer, Older, Value}

-- the mask and the connectivity of a board, and which table it is
abbrev pub ground_of : Board → Ground
ground_of board = board.base

abbrev pub table_of : Board → TableId
table_of board = board.table.shared.table_id

-- what the seats know
abbrev pub keeper_view : KeeperSeat → SeatView
keeper_view keeper = keeper.seat.me.0

abbrev pub hand_view : HandSeat → SeatView
hand_view hand = hand.seat.me.0

abbrev pub peek_view : PeekSeat → SeatView
peek_view peek = peek.seat.me.0

-- the keeper's seat is of this board, and its marker is nowhere above the mask
pub record IsKeeperOf (board : Board) (keeper : KeeperSeat) : Type 0 where
  pub table : keeper.seat.table_id ≡ table_of board
  pub below : IsBelow (keeper_view keeper).marker (mask_of (ground_of board))

-- the seat of a hand, and that of a peek, is of this board
abbrev pub IsHandOf : Board → HandSeat → Type 0
IsHandOf board hand = hand.seat.table_id ≡ table_of board

abbrev pub IsPeekOf : Board → PeekSeat → Type 0
IsPeekOf board peek = peek.seat.table_id ≡ table_of board

-- the keeper is in this generation, with this marker, by a step on word 0. What it knew it still knows
pub record HasBegun (generation : ℕ) (marker : Raster) (old new : SeatView) : Type 0 where
  pub generation_is : new.generation ≡ generation
  pub marker_is : new.marker ≡ marker
  pub facts : new.facts ≡ old.facts
  pub found : ℕ
  pub stepped : new.steps ≡ old.steps ++ (0, found) ∷ []

-- the next generation began, or the marker rose in the same one
abbrev pub HasAdvanced : Raster → SeatView → SeatView → Type 0
HasAdvanced marker old new = HasBegun (old.generation + 1) marker old new

abbrev pub HasRisen : Raster → SeatView → SeatView → Type 0
HasRisen marker old new = HasBegun old.generation marker old new

-- one more fact is known, from a step on its pixel's word, which found a number there
pub record Adds (base : Ground) (f : Fact) (old new : SeatView) : Type 0 where
  pub facts : new.facts ≡ old.facts ++ f ∷ []
  pub generation : new.generation ≡ old.generation
  pub marker : new.marker ≡ old.marker
  pub found : ℕ
  pub stepped : new.steps ≡ old.steps ++ (place_of base f.pixel, found) ∷ []

-- the pixel has the marker's value, in the keeper's generation
abbrev pub planted_fact : SeatView → Pixel → Fact
planted_fact keeper p = fact p keeper.generation (value_at keeper.marker p)

-- the neighbour has the fact's value, as far as the mask lets it
abbrev pub raised_fact : Ground → Fact → Pixel → Fact
raised_fact base from q = fact q from.generation (min from.value (value_at (mask_of base) q))

-- the seat's generation is the one that a step found in word 0. What it knew it still knows
pub record HasStarted (old new : SeatView) : Type 0 where
  pub found : ℕ
  pub stepped : new.steps ≡ old.steps ++ (0, found) ∷ []
  pub generation : new.generation ≡ found / 65536
  pub facts : new.facts ≡ old.facts

-- a neighbour was raised: the seat knows that it has the value, and the answer is true where that step found less there
pub record HasRaised (base : Ground) (from : Fact) (q : Pixel) (rose : Bool) (old new : SeatView) : Type 0 where
  pub adds : Adds base (raised_fact base from q) old new
  pub rose_is : IsTrue rose ↔ (adds.found < number (raised_fact base from q))

-- of the pixel and the generation of the fact, no known value is greater
abbrev pub IsTop : List Fact → Fact → Type 0
IsTop facts loaded =
    (f : Fact) → Contains facts f → f.pixel ≡ loaded.pixel → f.generation ≡ loaded.generation → f.value ≤ loaded.value

-- a value is the fact that was loaded, of the seat's generation; else what was loaded is of an older or a newer one
abbrev pub IsSeen : ℕ → Fact → Seen → Type 0
IsSeen generation loaded (Value f) = (f ≡ loaded) × (loaded.generation ≡ generation)
IsSeen generation loaded Older = loaded.generation < generation
IsSeen generation loaded Newer = generation < loaded.generation

-- the fact is one of the pixel, and its number stands for it alone
pub record IsOf (p : Pixel) (loaded : Fact) : Type 0 where
  pub pixel : loaded.pixel ≡ p
  pub small : loaded.value < 65536

-- a pixel was read: the seat knows the fact that was loaded
pub record HasRead (base : Ground) (p : Pixel) (seen : Seen) (old new : SeatView) : Type 0 where
  pub loaded : Fact
  pub of : IsOf p loaded
  pub adds : Adds base loaded old new
  pub is_loaded : adds.found ≡ number loaded
  pub top : IsTop old.facts loaded
  pub seen_is : IsSeen old.generation loaded seen

-- live is a value of the generation that was then found; moved where the two differ
abbrev pub IsAnswer : ℕ → Fact → Peek → Type 0
IsAnswer generation loaded (Live value) = (loaded.generation ≡ generation) × (loaded.value ≡ value)
IsAnswer generation loaded Moved = loaded.generation ≡ generation → ⊥

-- a pixel was peeked at by two steps: the first loaded a fact from its word, which the seat knows, and the last found a
-- generation in word 0
pub record HasPeeked (base : Ground) (p : Pixel) (answer : Peek) (old new : SeatView) : Type 0 where
  pub loaded : Fact
  pub of : IsOf p loaded
  pub facts : new.facts ≡ old.facts ++ loaded ∷ []
  pub found : ℕ
  pub stepped : new.steps ≡ old.steps ++ (place_of base p, number loaded) ∷ (0, found) ∷ []
  pub generation : new.generation ≡ found / 65536
  pub top : IsTop old.facts loaded
  pub answer_is : IsAnswer new.generation loaded answer

-- the fact is one that the hand knows, and it is of the hand's generation
pub record IsFactOf (hand : SeatView) (f : Fact) : Type 0 where
  pub known : Contains hand.facts f
  pub current : f.generation ≡ hand.generation

-- the pixel lies on the board, beside the other one
pub record IsBeside (base : Ground) (p q : Pixel) : Type 0 where
  pub on : IsOn base q
  pub beside : AreNeighbours base.conn p q
