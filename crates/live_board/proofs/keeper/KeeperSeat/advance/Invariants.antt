use Rattle.live_board.proofs.keeper.KeeperSeat.advance.Given as goal

abbrev pub ghosts-begin : goal.ghosts-begin
ghosts-begin a = record { marker = a.marker.now }
