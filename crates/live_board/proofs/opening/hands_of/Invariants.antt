use Rattle.std.proofs.Common.{All, length, ◌≡◌}
use Rattle.live_board.specs.Opening.{IsNewHand}
use Rattle.live_board.proofs.opening.hands_of.Given as goal

abbrev pub invariant-loop-hand : goal.invariant-loop-hand
invariant-loop-hand l = (length l.hands.items ≡ l._hand) × All (IsNewHand l.board) l.hands.items
