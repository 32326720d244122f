-- What a run says that reads a source to its end, works out one text, and writes it.
use Rattle.std.specs.Prelude.{◌≡◌, ◌⊎◌, ℕ, ◌+◌, ◌<◌, ◌≤◌, List, Option, Result, IfOk, IfErr, IsErrAnd, MatchResult}
use Rattle.std.specs.Io.KnownBytes.{Appends, IsAtEnd}
use Rattle.byte_devices.specs.Device.{SourceSeen, SinkSeen, count_after, HasRisen}
use Rattle.byte_devices.specs.Transfer.{most_pulls, IsInputOf, AppendsFront, GivesUp}

-- The answer to what the source had left was written, or it was refused. A value and a text answer an input
-- (`answers`), or an error stops it (`stops`). `early` are the errors that may come whatever the input is, as want of
-- memory, and `failed` those that say that a device failed; `seen` is what is seen of the sink.
pub record Responds {T E K : Type 0} (answers : List ℕ → T → List ℕ → Type 0) (stops : List ℕ → E → Type 0)
    (early failed : E → Type 0) (result : Result T E) (known : Option (List ℕ)) (seen : K → SinkSeen) (old new : K)
    : Type 0 where
  -- what is written answers what is read, with the value, and nothing else is written
  pub shown : IfOk result (λ value. (input text : List ℕ) × IsInputOf known input × answers input value text
      × Appends (seen old).written (seen new).written text)
  -- those errors aside, a refusal is one at which the input stops
  pub refused : IfErr result (λ e. early e ⊎ failed e ⊎ ((input : List ℕ) × IsInputOf known input × stops input e))
  -- nothing is written, unless the sink failed: then a front of the answer
  pub untouched : IfErr result (λ e. (failed e → ⊥) → new ≡ old)
  pub written : IfErr result (λ e. failed e → (new ≡ old) ⊎ (HasRisen (seen old).failures (seen new).failures
      × ((input text : List ℕ) × (value : T) × IsInputOf known input × answers input value text
      × AppendsFront (seen old).written (seen new).written text)))

-- What the devices tell after such a run.
pub record TellsDevices {T E : Type 0} (early failed : E → Type 0) (result : Result T E) (source source' : SourceSeen)
    (sink sink' : SinkSeen) : Type 0 where
  -- those errors aside, the source was read to its end, and never with more pulls than it is given
  pub in_time : source'.pulls ≤ source.pulls + most_pulls
  pub ended : MatchResult result (λ _. source'.ends ≡ count_after source.ends 1)
      (λ e. early e ⊎ failed e ⊎ (source'.ends ≡ count_after source.ends 1))
  pub at_end : MatchResult result (λ _. IsAtEnd source'.remaining)
      (λ e. early e ⊎ failed e ⊎ IsAtEnd source'.remaining)
  -- a device's fault comes only of a device, and a device that failed gives it
  pub device : IfErr result (λ e. failed e → GivesUp most_pulls source source' ⊎ HasRisen sink.failures sink'.failures)
  pub source_failure : source.failures < source'.failures → IsErrAnd result failed
  pub sink_failure : sink.failures < sink'.failures → IsErrAnd result failed
