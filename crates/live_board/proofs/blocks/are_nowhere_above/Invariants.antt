use Rattle.std.proofs.Common.{◌*◌, length, min}
use Rattle.live_board.specs.Blocks.{AreNoneAbove}
use Rattle.live_board.proofs.blocks.are_nowhere_above.Given as goal

abbrev pub invariant-loop-block : goal.invariant-loop-block
invariant-loop-block l = AreNoneAbove 0 (min (length l.ones) (l.block * 256)) l.ones l.others
