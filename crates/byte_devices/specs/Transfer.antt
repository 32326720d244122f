-- What the transfers of whole texts do: reading a source to its end, and putting all bytes into a sink.
use Rattle.std.specs.Prelude.{◌≡◌, ◌⊎◌, ℕ, ◌+◌, ◌^◌, ◌<◌, ◌≤◌, List, take, Option, Result, IfErr, IfSome, OnOk, OnErr}
use Rattle.std.specs.Prelude.{IsErrAnd, MatchResult}
use Rattle.std.specs.Io.KnownBytes.{Appends, IsAtEnd}
use Rattle.byte_devices.specs.Device.{SourceSeen, SinkSeen, count_after, HasRisenBy, HasRisen}

-- how many pulls a source has to reach its end
abbrev pub most_pulls : ℕ
most_pulls = 2 ^ 28

-- the input is what the source had left, where that is known
abbrev pub IsInputOf : Option (List ℕ) → List ℕ → Type 0
IsInputOf known input = IfSome known (λ bytes. input ≡ bytes)

-- known bytes grow by some front of the text
abbrev pub AppendsFront : Option (List ℕ) → Option (List ℕ) → List ℕ → Type 0
AppendsFront old new text = (n : ℕ) × Appends old new (take n text)

-- a source is given up: the count of failures has risen or stands at its limit; or no more ends were counted, and the
-- count of pulls has risen by so many or stands at its limit
abbrev pub GivesUp : ℕ → SourceSeen → SourceSeen → Type 0
GivesUp most old new =
    HasRisen old.failures new.failures ⊎ (HasRisenBy most old.pulls new.pulls × (new.ends ≡ old.ends))

-- a source was read to its end, in at most so many pulls, for an answer that asks for all of its bytes; `early` are the
-- errors that may come before the end, `failed` those that say that a device failed
pub record ReadsToEnd {T E : Type 0} (early failed : E → Type 0) (most : ℕ) (result : Result T E) (old new : SourceSeen)
    : Type 0 where
  -- but for those errors the source is at its end, which was found once; where no error came no pull failed
  pub at_end : MatchResult result (λ _. IsAtEnd new.remaining) (λ e. early e ⊎ failed e ⊎ IsAtEnd new.remaining)
  pub ended : MatchResult result (λ _. new.ends ≡ count_after old.ends 1)
      (λ e. early e ⊎ failed e ⊎ (new.ends ≡ count_after old.ends 1))
  pub steady : OnOk result (new.failures ≡ old.failures)
  -- never with more pulls than it is given
  pub in_time : new.pulls ≤ old.pulls + most
  -- a device's fault comes only of a device, and a device that failed gives it
  pub device : IfErr result (λ e. failed e → GivesUp most old new)
  pub failure : old.failures < new.failures → IsErrAnd result failed

-- all of the bytes were put, or, after a fault, some front of them
pub record PutsAll {E : Type 0} (result : Result (Unit {0}) E) (old new : SinkSeen) (bytes : List ℕ) : Type 0 where
  pub text : OnOk result (Appends old.written new.written bytes)
  pub steady : OnOk result (new.failures ≡ old.failures)
  pub fault : OnErr result (HasRisen old.failures new.failures)
  pub front : OnErr result (AppendsFront old.written new.written bytes)
