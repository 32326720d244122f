-- What the calls on sources and sinks answer.
use Rattle.std.specs.Prelude.{◌≡◌, ◌⊎◌, ℕ, ◌<◌, List, Option, Result, Ok, OnOk, IfOk, IfErr, IfSome, IsErrOf, IsErrAnd}
use Rattle.std.specs.Io.KnownBytes.{Appends}
use Rattle.byte_devices.specs.{Device.SinkSeen, Device.HasRisen, Transfer.AppendsFront}
use Rattle.pgm_codec.specs.{declared.error.PgmError.PgmError, FirstFault.PgmFault, Graymap.Graymap, Spelling.PgmSpells}
use Rattle.pgm_codec.specs.declared.error.PgmError.TheVariants.{Memory, Device}

-- want of memory, P10
abbrev pub IsOfMemory : PgmError → Type 0
IsOfMemory e = e ≡ Memory

-- a device failed, P11
abbrev pub IsOfDevice : PgmError → Type 0
IsOfDevice e = e ≡ Device

-- the image that a text spells was read, or the text was refused, where the text is known; want of memory and a
-- device's fault may stand in place of either
pub record ReadsImage (known : Option (List ℕ)) (result : Result Graymap PgmError) : Type 0 where
  pub found : IfOk result (λ image. IfSome known (λ text. PgmSpells text image))
  pub only : IfSome known (λ text. (image : Graymap) → PgmSpells text image
      → (result ≡ Ok image) ⊎ IsErrAnd result (λ e. IsOfMemory e ⊎ IsOfDevice e))
  pub fault : IfErr result (λ e. IsOfMemory e ⊎ IsOfDevice e ⊎ IfSome known (λ text. PgmFault text e))

-- the file was put into a sink; or nothing was put, for want of memory; or the sink failed, and a front of the file was
-- put; `seen` is what is seen of the sink
pub record WritesFile {K : Type 0} (file : List ℕ) (result : Result (Unit {0}) PgmError) (seen : K → SinkSeen)
    (old new : K) : Type 0 where
  pub text : OnOk result (Appends (seen old).written (seen new).written file)
  pub only : IfErr result (λ e. IsOfMemory e ⊎ IsOfDevice e)
  pub untouched : IsErrOf result Memory → new ≡ old
  pub device : IsErrOf result Device → HasRisen (seen old).failures (seen new).failures
  pub front : IsErrOf result Device → AppendsFront (seen old).written (seen new).written file
  pub failure : (seen old).failures < (seen new).failures → IsErrOf result Device
