-- What contracts see of a source and of a sink in memory.
use Rattle.std.specs.Prelude.{◌≡◌, ◌⊎◌, ◌↔◌, ℕ, min, List, [], length, Option, Some, None, Result, IfOk, OnOk, IsErr}
use Rattle.byte_devices.specs.Device.{SourceSeen, SinkSeen, Pulls, Puts, count_after, HasRisen}

-- the bytes still to come, the most that one pull gives, the pull that fails (counted from 1), and the counts
pub record MemoryInput : Type 0 where
  pub left : List ℕ
  pub piece : ℕ
  pub fails_at : Option ℕ
  pub pulls : ℕ
  pub failures : ℕ
  pub ends : ℕ

-- the bytes taken so far, the most that one put takes, the put that fails (counted from 1), and the
-- counts; refused are the puts that found no memory
pub record MemoryOutput : Type 0 where
  pub written : List ℕ
  pub piece : ℕ
  pub fails_at : Option ℕ
  pub puts : ℕ
  pub failures : ℕ
  pub refused : ℕ

-- what is seen of it as a source
abbrev pub input_seen : MemoryInput → SourceSeen
input_seen s = record { remaining = Some s.left; pulls = s.pulls; failures = s.failures; ends = s.ends }

-- what is seen of it as a sink
abbrev pub output_seen : MemoryOutput → SinkSeen
output_seen s = record { written = Some s.written; failures = s.failures }

-- a source with these bytes still to come, that gives pieces of this length and fails at no pull; nothing is counted
abbrev pub fresh_input : List ℕ → ℕ → MemoryInput
fresh_input bytes piece =
    record { left = bytes; piece = piece; fails_at = None; pulls = 0; failures = 0; ends = 0 }

-- an empty sink, that takes pieces of this length and fails at no put; nothing is counted
abbrev pub fresh_output : ℕ → MemoryOutput
fresh_output piece = record { written = []; piece = piece; fails_at = None; puts = 0; failures = 0; refused = 0 }

-- a pull from memory, at the front of a buffer that is `buffer` before and `buffer'` afterwards
pub record PullsMemory {E : Type 0} (old new : MemoryInput) (result : Result ℕ E) (buffer buffer' : List ℕ) : Type 0
  where
    pub pulls : Pulls (input_seen old) (input_seen new) result buffer'
    -- as many bytes as are left, fit and make a piece; and only the chosen pull fails
    pub count : IfOk result (λ n. n ≡ min old.piece (min (length old.left) (length buffer)))
    pub chosen : IsErr result ↔ (old.fails_at ≡ Some new.pulls)
    -- the choices stay
    pub same_piece : new.piece ≡ old.piece
    pub same_choice : new.fails_at ≡ old.fails_at

-- a put into memory
pub record PutsMemory {E : Type 0} (old new : MemoryOutput) (result : Result ℕ E) (given : List ℕ) : Type 0 where
  pub taken : Puts (output_seen old) (output_seen new) result given
  -- as many bytes as make a piece; the chosen put fails, and otherwise only one that finds no memory
  pub count : IfOk result (λ n. n ≡ min old.piece (length given))
  pub chosen : old.fails_at ≡ Some new.puts → IsErr result
  pub others : IsErr result → (old.fails_at ≡ Some new.puts) ⊎ HasRisen old.refused new.refused
  -- it is counted, and as refused only where it finds no memory
  pub puts : new.puts ≡ count_after old.puts 1
  pub steady : OnOk result (new.refused ≡ old.refused)
  pub not_refused : old.fails_at ≡ Some new.puts → new.refused ≡ old.refused
  -- the choices stay
  pub same_piece : new.piece ≡ old.piece
  pub same_choice : new.fails_at ≡ old.fails_at
