-- What was pulled was consumed, and no pull failed or found the end.
use Rattle.std.proofs.Common.{◌≡◌, ◌+◌, ◌<◌, ◌≤◌, take, vec_len}
use Rattle.std.specs.Io.KnownBytes.{Consumes}
use Rattle.byte_devices.specs.Device.{HasRisenBy}
use Rattle.byte_devices.proofs.transfer.read_all_within.Given as goal

abbrev pub invariant-loop-pull : goal.invariant-loop-pull
invariant-loop-pull g l =
    let old = g.S.Source.seen l.initial.source in
    let new = g.S.Source.seen l.source in record {
      consumed : Consumes old.remaining new.remaining (take l.filled l.bytes.items);
      at_least : HasRisenBy l._pull old.pulls new.pulls;
      at_most : new.pulls ≤ old.pulls + l._pull;
      failures : new.failures ≡ old.failures;
      ends : new.ends ≡ old.ends;
      filled : l.filled ≤ vec_len l.bytes;
      room : 0 < vec_len l.bytes;
    }
