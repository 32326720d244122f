use Rattle.std.proofs.Common.{◌≡◌, ◌++◌, take, flat_map}
use Rattle.pgm_codec.proofs.PlainLoop.{behind}
use Rattle.pgm_codec.proofs.plain_writing.put_behind.Given as goal

abbrev pub invariant-loop-i : goal.invariant-loop-i
invariant-loop-i l = l.out.items ≡ l.initial.out.items ++ flat_map behind (take l.i l.samples)
