use Rattle.live_board.specs.{Rounds.pixel_after, Seats.ground_of}
use Rattle.live_board.proofs.keeper.KeeperSeat.plant_cell.Given as goal

abbrev pub ghosts-lift_cell : goal.ghosts-lift_cell
ghosts-lift_cell a = record { pixel = pixel_after (ground_of a.board.now) a.cell }
