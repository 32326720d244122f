use Rattle.std.proofs.Common.{All, length, ◌≡◌}
use Rattle.live_board.specs.Opening.{IsNewPeek}
use Rattle.live_board.proofs.opening.peeks_of.Given as goal

abbrev pub invariant-loop-peek : goal.invariant-loop-peek
invariant-loop-peek l = (length l.peeks.items ≡ l._peek) × All (IsNewPeek l.board) l.peeks.items
