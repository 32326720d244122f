use Rattle.live_board.proofs.keeper.KeeperSeat.plant.Given as goal

abbrev pub ghosts-lift : goal.ghosts-lift
ghosts-lift a = record { pixel = a.pixel }
