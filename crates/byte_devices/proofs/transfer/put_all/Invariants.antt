-- What is gone from `rest` was appended, and no put failed.
use Rattle.std.proofs.Common.{◌≡◌, List, ℕ, ◌++◌, length}
use Rattle.std.specs.Io.KnownBytes.{Appends}
use Rattle.byte_devices.proofs.transfer.put_all.Given as goal

abbrev pub invariant-loop-rest : goal.invariant-loop-rest
invariant-loop-rest g l =
    let old = g.K.Sink.seen l.initial.sink in
    let new = g.K.Sink.seen l.sink in record {
      taken : (done : List ℕ) × (l.initial.rest ≡ done ++ l.rest) × Appends old.written new.written done;
      failures : new.failures ≡ old.failures;
    }

abbrev pub decreases-loop-rest : goal.decreases-loop-rest
decreases-loop-rest g l = length l.rest
