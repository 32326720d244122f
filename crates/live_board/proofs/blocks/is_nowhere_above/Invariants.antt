use Rattle.std.proofs.Common.{false, ◌↔◌, ◌≡◌}
use Rattle.live_board.specs.Blocks.{AreNoneAbove}
use Rattle.live_board.proofs.blocks.is_nowhere_above.Given as goal

abbrev pub invariant-loop-place : goal.invariant-loop-place
invariant-loop-place l = (l.is_above ≡ false) ↔ AreNoneAbove l.from l.place l.ones l.others
