use Rattle.live_board.proofs.keeper.KeeperSeat.exchange.Given as goal

abbrev pub ghosts-rise : goal.ghosts-rise
ghosts-rise a = record { marker = a.marker.now }
