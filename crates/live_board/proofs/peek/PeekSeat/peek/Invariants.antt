use Rattle.live_board.proofs.peek.PeekSeat.peek.Given as goal

abbrev pub ghosts-load : goal.ghosts-load
ghosts-load a = record { pixel = a.pixel }
