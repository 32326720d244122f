-- What is gone from `rest` was put, and no put failed.
use Rattle.std.proofs.Common.{◌≡◌, ◌≤◌, List, ℕ, ◌++◌, length, All, flat_map}
use Rattle.std.specs.Io.KnownBytes.{Appends}
use Rattle.pgm_codec.specs.Writing.{sample_bytes}
use Rattle.pgm_codec.proofs.transfer.put_raster.Given as goal

abbrev pub invariant-loop-rest : goal.invariant-loop-rest
invariant-loop-rest g l =
    let old = g.K.Sink.seen l.initial.sink in
    let new = g.K.Sink.seen l.sink in record {
      taken : (done : List ℕ) × (l.samples ≡ done ++ l.rest)
          × Appends old.written new.written (flat_map (sample_bytes l.maxval) done);
      within : All (λ s. s ≤ l.maxval) l.rest;
      failures : new.failures ≡ old.failures;
      room : 65536 ≤ length l.block;
    }

abbrev pub decreases-loop-rest : goal.decreases-loop-rest
decreases-loop-rest g l = length l.rest
