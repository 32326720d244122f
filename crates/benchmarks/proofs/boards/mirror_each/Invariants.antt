use Rattle.live_board.specs.Seats.{IsKeeperOf}
use Rattle.benchmarks.proofs.boards.mirror_each.Given as goal

abbrev pub invariant-loop-edit : goal.invariant-loop-edit
invariant-loop-edit _ l = IsKeeperOf l.board l.seat
