-- A text in a buffer that a caller lends, the line of a fault in another one, and the code that goes with them.
use Rattle.std.specs.Prelude.{◌≡◌, ◌⊎◌, ℕ, ◌<◌, ◌≤◌, List, ◌++◌, drop, length}
use Rattle.run_faults.specs.{declared.run_error.RunError.RunError, RunError.HasStatus, RunError.fault_text}
use Rattle.run_faults.specs.RunError.{IsMemory, IsTransferFault}
use Rattle.seedpaint_c.specs.{Cells.NamesNone, declared.buffers.Lengths.Lengths}

-- the buffer begins with this text, of this length, and has behind it what it had before
pub record StartsWith (old new : List ℕ) (count : ℕ) (text : List ℕ) : Type 0 where
  pub count_is : count ≡ length text
  pub fits : count ≤ length old
  pub bytes : new ≡ text ++ drop count old

-- the buffer is too short for this text, of this length, and it is as it was
pub record IsTooShort (old new : List ℕ) (count : ℕ) (text : List ℕ) : Type 0 where
  pub count_is : count ≡ length text
  pub short : length old < count
  pub same : new ≡ old

-- the code is 0, and the buffer begins with the text; or it is 4, and the buffer is too short for it
abbrev pub IsHandedOut : List ℕ → List ℕ → ℕ → List ℕ → ℕ → Type 0
IsHandedOut old new count text code =
    ((code ≡ 0) × StartsWith old new count text) ⊎ ((code ≡ 4) × IsTooShort old new count text)

-- of two buffers one is too short for its text, and both are as they were
pub record AreTooShort (a a' : List ℕ) (count : ℕ) (text : List ℕ) (b b' : List ℕ) (other_count : ℕ) (other : List ℕ)
    : Type 0 where
  pub count_is : count ≡ length text
  pub other_count_is : other_count ≡ length other
  pub short : (length a < count) ⊎ (length b < other_count)
  pub same : a' ≡ a
  pub other_same : b' ≡ b

-- the code is 0, and both buffers begin with their texts; or it is 4, and one of both is too short
abbrev pub AreHandedOut : List ℕ → List ℕ → ℕ → List ℕ → List ℕ → List ℕ → ℕ → List ℕ → ℕ → Type 0
AreHandedOut a a' count text b b' other_count other code =
    ((code ≡ 0) × StartsWith a a' count text × StartsWith b b' other_count other)
    ⊎ ((code ≡ 4) × AreTooShort a a' count text b b' other_count other)

-- the buffer begins with the line of this fault, or is too short for it; or the code is 3, since memory was wanting for
-- the line, of which nothing is told
abbrev pub SaysFault : List ℕ → List ℕ → ℕ → ℕ → RunError → Type 0
SaysFault old new count code e =
    StartsWith old new count (fault_text e) ⊎ IsTooShort old new count (fault_text e)
    ⊎ ((code ≡ 3) × (count ≡ 0) × (new ≡ old))

-- want of memory; that of a sink in memory is told as the fault of a device
abbrev pub IsShortage : RunError → Type 0
IsShortage e = IsMemory e ⊎ IsTransferFault e

-- a run ended by a fault, which is a reason to refuse or want of memory, and the buffer has its line. With code 1 it is
-- a reason to refuse. With 3 it is none that ends the program with status 1, or memory was wanting for its line
pub record IsEndedBy (Refuses Wants : RunError → Type 0) (old new : List ℕ) (count code : ℕ) : Type 0 where
  pub fault : RunError
  pub why : Refuses fault ⊎ Wants fault
  pub refused : code ≡ 1 → HasStatus fault 1 × Refuses fault
  pub memory : code ≡ 3 → (HasStatus fault 1 → ⊥) ⊎ (count ≡ 0)
  pub line : SaysFault old new count code fault

-- no text is told of but with 0 and 4, and no line of a fault but with 1 and 3
pub record HasNoOther (lengths : Lengths) (code : ℕ) : Type 0 where
  pub text : (code ≡ 0 → ⊥) → (code ≡ 4 → ⊥) → (lengths.out ≡ 0) × (lengths.state ≡ 0)
  pub fault : (code ≡ 1 → ⊥) → (code ≡ 3 → ⊥) → lengths.fault ≡ 0

-- the code is one of those of a view, and it is 2 only of a number that names no connectivity
abbrev pub IsAnswerCode : ℕ → ℕ → Type 0
IsAnswerCode number code =
    (code ≡ 0) ⊎ (code ≡ 1) ⊎ ((code ≡ 2) × NamesNone number) ⊎ (code ≡ 3) ⊎ (code ≡ 4)
