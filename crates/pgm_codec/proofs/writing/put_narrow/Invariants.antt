use Rattle.std.proofs.Common.{◌≡◌, ◌+◌, ◌++◌, length, take, flat_map}
use Rattle.pgm_codec.specs.Writing.{sample_bytes}
use Rattle.pgm_codec.proofs.writing.put_narrow.Given as goal

abbrev pub invariant-loop-i : goal.invariant-loop-i
invariant-loop-i l = record {
  len : length l.out ≡ length l.initial.out;
  written : take (l.at + l.i) l.out ≡ take l.at l.initial.out ++ flat_map (sample_bytes l.maxval) (take l.i l.samples);
}
