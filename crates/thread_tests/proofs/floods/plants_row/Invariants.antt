use Rattle.live_board.specs.Seats.{IsKeeperOf}
use Rattle.thread_tests.proofs.floods.plants_row.Given as goal

abbrev pub invariant-loop-x : goal.invariant-loop-x
invariant-loop-x l = IsKeeperOf l.board l.keeper
