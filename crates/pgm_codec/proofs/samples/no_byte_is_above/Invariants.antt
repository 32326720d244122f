use Rattle.std.proofs.Common.{◌≡◌, false, nat_lt, take}
use Rattle.std.specs.List.{list_any}
use Rattle.pgm_codec.proofs.samples.no_byte_is_above.Given as goal

abbrev pub invariant-loop-i : goal.invariant-loop-i
invariant-loop-i l = record {
  none : list_any (λ b. nat_lt 255 b) (take l.i l.bytes) ≡ false;
}
