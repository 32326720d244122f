use Rattle.std.proofs.Common.{All}
use Rattle.thread_tests.specs.Company.{IsShareOf}
use Rattle.thread_tests.proofs.floods.flood_until_grown.Given as goal

abbrev pub invariant-loop : goal.invariant-loop
invariant-loop _ l = All (IsShareOf l.board) l.shares
