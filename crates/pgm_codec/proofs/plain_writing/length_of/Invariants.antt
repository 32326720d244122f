use Rattle.std.proofs.Common.{◌≡◌, ◌+◌, ◌*◌, ◌≤◌, length, take, decimal, sum_by}
use Rattle.pgm_codec.proofs.plain_writing.length_of.Given as goal

abbrev pub invariant-loop-i : goal.invariant-loop-i
invariant-loop-i l = record {
  sum : l.length ≡ sum_by (λ s. length (decimal s) + 1) (take l.i l.samples);
  few : l.length ≤ l.i * 6;
}
