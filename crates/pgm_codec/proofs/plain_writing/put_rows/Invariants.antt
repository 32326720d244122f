use Rattle.std.proofs.Common.{◌≡◌, ◌++◌, ◌*◌, ◌-◌, length}
use Rattle.pgm_codec.proofs.PlainLoop.{rows_from}
use Rattle.pgm_codec.proofs.plain_writing.put_rows.Given as goal

abbrev pub invariant-loop-row : goal.invariant-loop-row
invariant-loop-row l = record {
  written : l.out.items ++ rows_from l.width l.height l._row l.rest ≡ l.initial.out.items
      ++ rows_from l.width l.height 0 l.samples;
  len : length l.rest ≡ l.width * (l.height - l._row);
}
