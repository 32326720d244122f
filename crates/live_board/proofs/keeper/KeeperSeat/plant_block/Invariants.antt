use Rattle.live_board.specs.Planting.{HasPlantedIn}
use Rattle.live_board.specs.Seats.{IsKeeperOf, ground_of, keeper_view}
use Rattle.live_board.proofs.keeper.KeeperSeat.plant_block.Given as goal

abbrev pub invariant-loop-cell : goal.invariant-loop-cell
invariant-loop-cell l = IsKeeperOf l.board l.self
    × HasPlantedIn (ground_of l.board) l.from l.cell (keeper_view l.fn.self) (keeper_view l.self)
