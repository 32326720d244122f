use Rattle.std.proofs.Common.{ℕ, ◌≤◌, List, length, All}
use Rattle.sha2.specs.Hashers.{Holds256}
use Rattle.spd_codec.proofs.Prints.{HoldsSome}
use Rattle.spd_codec.proofs.print.add_samples.Given as goal

abbrev pub invariant-loop-rest : goal.invariant-loop-rest
invariant-loop-rest l = record {
  holds : (m : List ℕ) → Holds256 l.initial.hasher m → HoldsSome l.hasher l.maxval l.samples l.rest m;
  within : All (λ s. s ≤ l.maxval) l.rest;
}

abbrev pub decreases-loop-rest : goal.decreases-loop-rest
decreases-loop-rest l = length l.rest
