use Rattle.std.proofs.Common.{◌*◌, min}
use Rattle.live_board.specs.{Planting.HasPlantedIn, Words.size_of}
use Rattle.live_board.specs.Seats.{IsKeeperOf, ground_of, keeper_view}
use Rattle.live_board.proofs.keeper.KeeperSeat.plant_risen.Given as goal

abbrev pub invariant-loop-block : goal.invariant-loop-block
invariant-loop-block l = IsKeeperOf l.board l.self
    × HasPlantedIn (ground_of l.board) 0 (min (size_of (ground_of l.board)) (l.block * 256)) (keeper_view l.fn.self)
    (keeper_view l.self)
