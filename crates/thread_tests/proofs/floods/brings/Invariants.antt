use Rattle.live_board.specs.Seats.{IsKeeperOf}
use Rattle.thread_tests.proofs.floods.brings.Given as goal

abbrev pub invariant-loop-y : goal.invariant-loop-y
invariant-loop-y l = IsKeeperOf l.board l.keeper
