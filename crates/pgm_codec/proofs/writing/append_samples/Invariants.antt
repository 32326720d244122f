-- What is gone from `rest` was appended.
use Rattle.std.proofs.Common.{◌≡◌, ◌≤◌, List, ℕ, ◌++◌, length, All, flat_map}
use Rattle.pgm_codec.specs.Writing.{sample_bytes}
use Rattle.pgm_codec.proofs.writing.append_samples.Given as goal

abbrev pub invariant-loop-rest : goal.invariant-loop-rest
invariant-loop-rest l = record {
  taken : (done : List ℕ) × (l.samples ≡ done ++ l.rest)
      × (l.out.items ≡ l.initial.out.items ++ flat_map (sample_bytes l.maxval) done);
  within : All (λ s. s ≤ l.maxval) l.rest;
  room : length l.block ≡ 4096;
}

abbrev pub decreases-loop-rest : goal.decreases-loop-rest
decreases-loop-rest l = length l.rest
