use Rattle.live_board.specs.{Floods.IsDraftOf, Seats.IsHandOf}
use Rattle.benchmarks.proofs.boards.go_round.Given as goal

abbrev pub invariant-loop : goal.invariant-loop
invariant-loop l = IsHandOf l.board l.worker.0 × IsDraftOf l.board l.worker.1
