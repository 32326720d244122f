use Rattle.live_board.specs.Seats.{IsKeeperOf}
use Rattle.thread_tests.proofs.peeks.mirrors.Given as goal

abbrev pub invariant-loop-edit : goal.invariant-loop-edit
invariant-loop-edit l = IsKeeperOf l.board l.seat
