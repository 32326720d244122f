use Rattle.std.proofs.Common.{◌≡◌, nat_lt, take}
use Rattle.std.specs.List.{list_any}
use Rattle.pgm_codec.proofs.samples.is_any_above.Given as goal

abbrev pub invariant-loop-i : goal.invariant-loop-i
invariant-loop-i l = record {
  above : list_any (λ s. nat_lt l.maxval s) (take l.i l.samples) ≡ nat_lt l.maxval l.greatest;
}
