use Rattle.std.proofs.Common.{◌≡◌, false, nat_lt, take}
use Rattle.std.specs.List.{list_any}
use Rattle.pgm_codec.proofs.samples.no_sample_is_above.Given as goal

abbrev pub invariant-loop-i : goal.invariant-loop-i
invariant-loop-i l = record {
  none : list_any (λ s. nat_lt 65535 s) (take l.i l.samples) ≡ false;
}
