use Rattle.live_board.specs.{Rounds.pixel_after, Seats.ground_of}
use Rattle.live_board.proofs.hand.HandSeat.level.Given as goal

abbrev pub ghosts-load_cell : goal.ghosts-load_cell
ghosts-load_cell a = record { pixel = pixel_after (ground_of a.board.now) a.cell }
