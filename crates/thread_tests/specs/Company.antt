-- Who belongs to a keeper, and who to a board.
use Rattle.std.specs.Prelude.{◌<◌, All, IfSome, ◌≡◌, ◌≤◌}
use Rattle.grid_core.specs.Raster.{Raster}
use Rattle.live_board.specs.Seats.{IsHandOf, IsKeeperOf, IsPeekOf, ground_of}
use Rattle.live_board.specs.{Floods.IsDraftOf, Words.mask_of, declared.board.Board.Board}
use Rattle.core_dispatch.specs.Pens.{IsOf}
use Rattle.studio.specs.{Words.eye_studio, Keeping.books_of, Keeping.studio_of}
use Rattle.thread_tests.specs.{declared.company.Crew.Crew, declared.company.Flooders.Flooders}
use Rattle.thread_tests.specs.{declared.company.Scene.Scene, declared.company.Seats.Seats}
use Rattle.thread_tests.specs.{declared.company.Share.Share}

-- the pen is of the keeper's books, and the eye is of its studio
pub record IsCompany (scene : Scene) : Type 0 where
  pub pen : IsOf scene.pen (books_of scene.keeper)
  pub eye : eye_studio scene.eye ≡ studio_of scene.keeper

-- the board stands on this mask, and the seats are its
pub record AreOf (board : Board) (mask : Raster) (seats : Seats) : Type 0 where
  pub mask_is : mask_of (ground_of board) ≡ mask
  pub keeper : IsKeeperOf board seats.keeper
  pub hand : IsHandOf board seats.hand
  pub peek : IsPeekOf board seats.peek

-- the seats are this board's
pub record IsCrewOf (board : Board) (crew : Crew) : Type 0 where
  pub keeper : IsKeeperOf board crew.keeper
  pub one : IfSome crew.one (IsHandOf board)
  pub two : IfSome crew.two (IsHandOf board)
  pub peek : IfSome crew.peek (IsPeekOf board)

-- the hand and the draft are the board's, and so are the rows
pub record IsShareOf (board : Board) (share : Share) : Type 0 where
  pub hand : IsHandOf board share.hand
  pub draft : IsDraftOf board share.draft
  pub some : share.first < share.end
  pub within : share.end ≤ (mask_of (ground_of board)).height

-- the board stands on this mask, and they flood it
pub record AreFlooding (board : Board) (mask : Raster) (flooders : Flooders) : Type 0 where
  pub mask_is : mask_of (ground_of board) ≡ mask
  pub keeper : IsKeeperOf board flooders.keeper
  pub shares : All (IsShareOf board) flooders.shares.items
  pub peek : IsPeekOf board flooders.peek
