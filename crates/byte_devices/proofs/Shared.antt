-- Lemmas for the crates above: clauses on a `Result` that hold either way, and runs whose errors are told apart less.
use Rattle.std.proofs.Common.{Result, Ok, Err, OnErr, inl, inr}
use Rattle.byte_devices.specs.{Device.SourceSeen, Device.SinkSeen, Response.TellsDevices}

-- a fact holds on `Err` where it holds
pub OnErr-always : {T E : Type 0} (P : Type 0) (r : Result T E) → P → OnErr r P
OnErr-always P (Ok x) h = tt
OnErr-always P (Err e) h = h

-- the same for what the devices tell
pub TellsDevices-wider : {T E : Type 0} (early wider failed : E → Type 0) (result : Result T E)
    (source source' : SourceSeen) (sink sink' : SinkSeen) → ((e : E) → early e → wider e)
    → TellsDevices early failed result source source' sink sink'
    → TellsDevices wider failed result source source' sink sink'
TellsDevices-wider early wider failed (Ok x) source source' sink sink' widen t = record {
  in_time = t.in_time;
  ended = t.ended;
  at_end = t.at_end;
  device = tt;
  source_failure = t.source_failure;
  sink_failure = t.sink_failure;
}
TellsDevices-wider early wider failed (Err e) source source' sink sink' widen t = record {
  in_time = t.in_time;
  ended = elim t.ended [ inl h ↦ inl (widen e h) | inr h ↦ inr h ];
  at_end = elim t.at_end [ inl h ↦ inl (widen e h) | inr h ↦ inr h ];
  device = t.device;
  source_failure = t.source_failure;
  sink_failure = t.sink_failure;
}
