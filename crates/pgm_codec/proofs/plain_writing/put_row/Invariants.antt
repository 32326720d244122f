use Rattle.std.proofs.Common.{◌≡◌, ◌++◌, length}
use Rattle.pgm_codec.specs.PlainWriting.{plain_row}
use Rattle.pgm_codec.proofs.plain_writing.put_row.Given as goal

abbrev pub invariant-loop-rest : goal.invariant-loop-rest
invariant-loop-rest l = l.out.items ++ plain_row l.rest ≡ l.initial.out.items ++ plain_row l.row

abbrev pub decreases-loop-rest : goal.decreases-loop-rest
decreases-loop-rest l = length l.rest
