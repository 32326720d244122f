-- What a run of the session says that reads a source to its end and writes the answer to it.
use Rattle.std.specs.Prelude.{◌≡◌, ℕ, List, Result, IsErrOf}
use Rattle.byte_devices.specs.{Device.SourceSeen, Device.SinkSeen, Response.Responds, Response.TellsDevices}
use Rattle.grid_core.specs.Tiles.{IsTileSide}
use Rattle.run_faults.specs.RunError.{IsReadingFault, IsTransferFault}
use Rattle.run_faults.specs.{declared.run_error.RunError.RunError, declared.run_error.RunError.TheVariants.Core}
use Rattle.core_rules.specs.declared.error.CoreError.TheVariants as core

-- A value and a text answer what the source had left, or an error stops it, and the devices tell of it. Want of memory
-- in reading and writing may come whatever the input is, and a device that failed gives its fault. `reading` and
-- `writing` are what is seen of the source and of the sink.
pub record Answers {V S K : Type 0} (answers : List ℕ → V → List ℕ → Type 0) (stops : List ℕ → RunError → Type 0)
    (result : Result V RunError) (reading : S → SourceSeen) (source source' : S) (writing : K → SinkSeen)
    (sink sink' : K) : Type 0 where
  pub responds : Responds answers stops IsReadingFault IsTransferFault result (reading source).remaining
      writing sink sink'
  pub devices : TellsDevices IsReadingFault IsTransferFault result (reading source) (reading source')
      (writing sink) (writing sink')

-- the same where tiles have such a side; where they have none, C5, and nothing is read or written
pub record AnswersForSide {V S K : Type 0} (side : ℕ) (answers : List ℕ → V → List ℕ → Type 0)
    (stops : List ℕ → RunError → Type 0) (result : Result V RunError) (reading : S → SourceSeen) (source source' : S)
    (writing : K → SinkSeen) (sink sink' : K) : Type 0 where
  pub no_side : (IsTileSide side → ⊥) → IsErrOf result (Core core.BadSide)
  pub unread : (IsTileSide side → ⊥) → (source' ≡ source) × (sink' ≡ sink)
  pub answered : IsTileSide side → Answers answers stops result reading source source' writing sink sink'
