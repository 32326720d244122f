-- What a board is when it is opened.
use Rattle.std.specs.Prelude.{◌*◌, ◌<◌, All, [], length, ℕ, ◌≡◌, ◌≤◌}
use Rattle.grid_core.specs.declared.conn.Conn.{Conn}
use Rattle.pgm_codec.specs.Graymap.{Graymap}
use Rattle.live_board.specs.Seats.{IsHandOf, IsKeeperOf, IsPeekOf, ground_of, hand_view, keeper_view, peek_view}
use Rattle.live_board.specs.{Words.beginner, Words.max_board, declared.board.Board.Board}
use Rattle.live_board.specs.{declared.hand.HandSeat.HandSeat, declared.opening.Opened.Opened}
use Rattle.live_board.specs.{declared.peek.PeekSeat.PeekSeat, declared.rule.Ground.Ground}

-- a board may have so many hands, or so many peeks
abbrev pub IsCount : ℕ → Type 0
IsCount n = (1 ≤ n) × (n ≤ 16)

abbrev pub AreCounts : ℕ → ℕ → Type 0
AreCounts hands peeks = IsCount hands × IsCount peeks

-- the image has more pixels than a board may have
abbrev pub IsTooLarge : Graymap → Type 0
IsTooLarge image = max_board < image.raster.width * image.raster.height

-- a mask with its connectivity, and the generation in which its board begins
abbrev pub new_ground : Graymap → Conn → ℕ → Ground
new_ground mask conn first = record { mask = mask; conn = conn; first = first }

-- a seat of the board that knows nothing of a pixel: of a hand, and of a peek
abbrev pub IsNewHand : Board → HandSeat → Type 0
IsNewHand board hand = IsHandOf board hand × ((hand_view hand).facts ≡ [])

abbrev pub IsNewPeek : Board → PeekSeat → Type 0
IsNewPeek board peek = IsPeekOf board peek × ((peek_view peek).facts ≡ [])

-- a board on this ground whose marker is 0 at each pixel, with so many seats of hands and peeks
pub record IsOpened (on : Ground) (hands peeks : ℕ) (opened : Opened) : Type 0 where
  pub ground_is : ground_of opened.board ≡ on
  pub keeper_is : IsKeeperOf opened.board opened.keeper
  pub keeper_knows : keeper_view opened.keeper ≡ beginner on
  pub hands_count : length opened.hands.items ≡ hands
  pub hands_are : All (IsNewHand opened.board) opened.hands.items
  pub peeks_count : length opened.peeks.items ≡ peeks
  pub peeks_are : All (IsNewPeek opened.board) opened.peeks.items
