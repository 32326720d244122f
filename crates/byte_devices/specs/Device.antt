-- What is seen of a source and of a sink, and what one call does to it.
use Rattle.std.specs.Prelude.{◌≡◌, ℕ, ◌+◌, ◌-◌, ◌^◌, ◌<◌, ◌≤◌, min, List, length, Option, Result, IfOk, MatchResult}
use Rattle.std.specs.{Io.ReadsAtMost, Io.WritesAtMost, Io.KnownBytes.ReadConsumes, Io.KnownBytes.WriteAppends}

-- of a source: the bytes still to come, where they are known, how many pulls were made, how many of them failed, and
-- how many found the end
pub record SourceSeen : Type 0 where
  pub remaining : Option (List ℕ)
  pub pulls : ℕ
  pub failures : ℕ
  pub ends : ℕ

-- of a sink: the bytes taken so far, where they are known, and how many puts failed
pub record SinkSeen : Type 0 where
  pub written : Option (List ℕ)
  pub failures : ℕ

-- a source with these bytes still to come and no pull yet
abbrev pub fresh_source : Option (List ℕ) → SourceSeen
fresh_source known = record { remaining = known; pulls = 0; failures = 0; ends = 0 }

-- a sink that took these bytes and did not fail
abbrev pub fresh_sink : Option (List ℕ) → SinkSeen
fresh_sink known = record { written = known; failures = 0 }

-- a count after n more; it stops at the greatest number of 64 bits
abbrev pub count_after : ℕ → ℕ → ℕ
count_after count n = min (count + n) (2 ^ 64 - 1)

-- the count has risen by n or more, or stands at the greatest number of 64 bits
abbrev pub HasRisenBy : ℕ → ℕ → ℕ → Type 0
HasRisenBy n old new = count_after old n ≤ new

-- the count has risen, or stands at the greatest number of 64 bits
abbrev pub HasRisen : ℕ → ℕ → Type 0
HasRisen = HasRisenBy 1

-- one more failure at `Err`, and none at `Ok`
abbrev pub CountsFault : {T E : Type 0} → Result T E → ℕ → ℕ → Type 0
CountsFault result old new = MatchResult result (λ _. new ≡ old) (λ _. new ≡ count_after old 1)

-- one more end where a pull gave no byte, and none otherwise
abbrev pub CountsEnd : {E : Type 0} → Result ℕ E → ℕ → ℕ → Type 0
CountsEnd result old new =
    MatchResult result (λ n. (n ≡ 0 → new ≡ count_after old 1) × (0 < n → new ≡ old)) (λ _. new ≡ old)

-- a pull: it gives the next bytes, at the front of a buffer that is this one afterwards, or none at the end, and counts
pub record Pulls {E : Type 0} (old new : SourceSeen) (result : Result ℕ E) (buffer : List ℕ) : Type 0 where
  pub bound : ReadsAtMost result buffer
  pub bytes : ReadConsumes old.remaining new.remaining result buffer
  pub pulls : new.pulls ≡ count_after old.pulls 1
  pub failures : CountsFault result old.failures new.failures
  pub ends : CountsEnd result old.ends new.ends

-- a put: it takes some of the bytes that it is given, from their front, at least one where there is one, and counts
pub record Puts {E : Type 0} (old new : SinkSeen) (result : Result ℕ E) (given : List ℕ) : Type 0 where
  pub bound : WritesAtMost result given
  pub some : IfOk result (λ n. 0 < length given → 0 < n)
  pub bytes : WriteAppends old.written new.written result given
  pub failures : CountsFault result old.failures new.failures
