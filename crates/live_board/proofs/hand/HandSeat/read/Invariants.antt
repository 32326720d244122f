use Rattle.live_board.proofs.hand.HandSeat.read.Given as goal

abbrev pub ghosts-load : goal.ghosts-load
ghosts-load a = record { pixel = a.pixel }
