use Rattle.std.proofs.Common.{All}
use Rattle.live_board.specs.Seats.{IsHandOf}
use Rattle.thread_tests.specs.Company.{IsShareOf}
use Rattle.thread_tests.proofs.floods.shares_of.Given as goal

abbrev pub invariant-loop-number : goal.invariant-loop-number
invariant-loop-number l = All (IsHandOf l.board) l.hands.items × All (IsShareOf l.board) l.shares.items
