use Rattle.std.proofs.Common.{All}
use Rattle.live_board.specs.{Floods.IsDraftOf, Seats.IsHandOf}
use Rattle.benchmarks.proofs.boards.workers_of.Given as goal

abbrev pub invariant-loop : goal.invariant-loop
invariant-loop l = All (IsHandOf l.board) l.hands.items
    × All (λ w. IsHandOf l.board w.0 × IsDraftOf l.board w.1) l.workers.items
