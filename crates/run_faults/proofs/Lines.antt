-- A line that is put part by part.
use Rattle.std.proofs.Common.{List, ℕ, ◌++◌, [], Result, Ok, Err, refl}
use Rattle.std.proofs.KnownBytes.{Appends-nil}
use Rattle.byte_devices.specs.{Device.SinkSeen, Transfer.PutsAll}
use Rattle.pgm_codec.proofs.Blocks.{front_behind, puts_behind}

-- where a part was not put, those behind it were not either
pub stops : {E F : Type 0} (e : E) (f : F) (old new : SinkSeen) (part more : List ℕ) → PutsAll (Err e) old new part
    → PutsAll (Err f) old new (part ++ more)
stops e f old new part more put = record {
  text = tt;
  steady = tt;
  fault = put.fault;
  front = front_behind (part ++ more) [] part more old.written old.written new.written refl (Appends-nil old.written)
      put.front;
}

-- a part was put, and what comes behind it was put or not
pub goes_on : {E : Type 0} (result : Result (Unit {0}) E) (old middle new : SinkSeen) (part more : List ℕ)
    → PutsAll {E = E} (Ok tt) old middle part → PutsAll result middle new more → PutsAll result old new (part ++ more)
goes_on result old middle new part more put behind =
    puts_behind (part ++ more) part more old middle new result refl put.text put.steady behind

-- there is nothing to put
pub nothing_put : {E : Type 0} (seen : SinkSeen) → PutsAll {E = E} (Ok tt) seen seen []
nothing_put seen = record { text = Appends-nil seen.written; steady = refl; fault = tt; front = tt }
