-- What a run says over a store: it loads a state file, answers what the source had left, writes the answer, and saves
-- what the file is to keep.
use Rattle.std.specs.Prelude.{◌≡◌, ◌⊎◌, ℕ, ◌<◌, List, Option, Some, None, Result, IfErr, OnErr, OnOk, IsErrOf}
use Rattle.std.specs.Io.KnownBytes.{Appends}
use Rattle.byte_devices.specs.Device.{SourceSeen, SinkSeen, HasRisen}
use Rattle.byte_devices.specs.{Response.TellsDevices, Transfer.IsInputOf, Transfer.AppendsFront}
use Rattle.grid_core.specs.declared.conn.Conn.{Conn}
use Rattle.core_rules.specs.declared.error.CoreError.{CoreError}
use Rattle.spd_codec.specs.declared.error.SpdError.{SpdError}
use Rattle.view_session.specs.Joining.{IsJoinedOver, IsNotJoinedOver, IsStrokesView}
use Rattle.view_session.specs.{Kept.KeptStops, declared.joining.Strokes.Strokes}
use Rattle.view_session.specs.Store.{AreSame, Held, IsHeldIn, IsReplaced, StoreSeen}
use Rattle.run_faults.specs.{RunError.IsReadingFault, RunError.IsTransferFault, declared.run_error.RunError.RunError}
use Rattle.run_faults.specs.declared.run_error.RunError.TheVariants.{Core, Memory, OtherMask, Spd, StateFile}

-- what is to be kept: bytes for the file of a name, or nothing
abbrev pub ToKeep : Type 0
ToKeep = Option (List ℕ × List ℕ)

-- it is kept; where it is nothing, no file changes
abbrev pub IsKeptIn : Held → Held → ToKeep → Type 0
IsKeptIn before after None = AreSame before after
IsKeptIn before after (Some file) = IsReplaced before after file.0 file.1

-- errors that may come in saving: of the store, of memory, and of what a file has by then
abbrev pub IsSavingFault : RunError → Type 0
IsSavingFault e =
    (e ≡ StateFile) ⊎ (e ≡ Memory) ⊎ (e ≡ OtherMask) ⊎ ((why : SpdError) × (e ≡ Spd why))
    ⊎ ((why : CoreError) × (e ≡ Core why))

-- the text that shows what the source had left was written
abbrev pub IsWritten : {K : Type 0} → (List ℕ → List ℕ → Type 0) → Option (List ℕ) → (K → SinkSeen) → K → K → Type 0
IsWritten shows known seen sink sink' =
    (input text : List ℕ) × IsInputOf known input × shows input text
    × Appends (seen sink).written (seen sink').written text

-- The answer to what the source had left was written, and what it keeps was saved, or the run was refused. A text and
-- what it keeps answer an input (`answers`), where the text shows it (`shows`), or an error stops it (`stops`); `early`
-- are the errors that may come whatever the input is.
pub record Serves {S K : Type 0} (answers : List ℕ → List ℕ → ToKeep → Type 0) (shows : List ℕ → List ℕ → Type 0)
    (stops : List ℕ → RunError → Type 0) (early : RunError → Type 0) (result : Result (Unit {0}) RunError)
    (known : Option (List ℕ)) (source source' : S) (seen : K → SinkSeen) (sink sink' : K) (before after : Held) : Type 0
  where
    -- what is written answers what is read, and nothing else is; what is to be kept is kept, and no other file changes
    pub shown : OnOk result ((input text : List ℕ) × (kept : ToKeep) × IsInputOf known input × answers input text kept
        × Appends (seen sink).written (seen sink').written text × IsKeptIn before after kept)
    -- those errors and devices aside, a refusal is one at which the input stops
    pub refused : IfErr result (λ e. early e ⊎ IsTransferFault e
        ⊎ ((input : List ℕ) × IsInputOf known input × stops input e))
    -- nothing is written; or the sink failed, and a front of what is shown is; or it could not be saved, and all is
    pub untouched : IfErr result (λ e. (IsTransferFault e → ⊥) → (IsSavingFault e → ⊥) → sink' ≡ sink)
    pub written : IfErr result (λ e. IsTransferFault e → (sink' ≡ sink)
        ⊎ (HasRisen (seen sink).failures (seen sink').failures
        × ((input text : List ℕ) × IsInputOf known input × shows input text
        × AppendsFront (seen sink).written (seen sink').written text)))
    pub unsaved : IfErr result (λ e. IsSavingFault e → (sink' ≡ sink) ⊎ IsWritten shows known seen sink sink')
    -- where the file could not be loaded, nothing was read
    pub not_saved : IfErr result (λ e. e ≡ StateFile → ((source' ≡ source) × (sink' ≡ sink))
        ⊎ IsWritten shows known seen sink sink')

-- What the store tells after such a run: after an error no file has changed; V2 comes only of a store that failed, and
-- a store that failed gives it.
pub record TellsStore (result : Result (Unit {0}) RunError) (old new : StoreSeen) : Type 0 where
  pub files : OnErr result (AreSame old.held new.held)
  pub fault : IfErr result (λ e. e ≡ StateFile → HasRisen old.failures new.failures)
  pub failure : old.failures < new.failures → IsErrOf result StateFile

-- A run over a store: what it serves, and what the devices and the store tell of it. `reading`, `keeping` and `writing`
-- are what is seen of the source, of the store and of the sink.
pub record AnswersOverStore {S T K : Type 0} (answers : Held → List ℕ → List ℕ → ToKeep → Type 0)
    (shows : Held → List ℕ → List ℕ → Type 0) (stops : Held → List ℕ → RunError → Type 0) (early : RunError → Type 0)
    (result : Result (Unit {0}) RunError)
    (reading : S → SourceSeen) (source source' : S) (keeping : T → StoreSeen) (store store' : T)
    (writing : K → SinkSeen) (sink sink' : K) : Type 0 where
  pub serves : Serves (answers (keeping store).held) (shows (keeping store).held) (stops (keeping store).held) early
      result (reading source).remaining source source' writing sink sink' (keeping store).held (keeping store').held
  pub devices : TellsDevices early IsTransferFault result (reading source) (reading source') (writing sink)
      (writing sink')
  pub stored : TellsStore result (keeping store) (keeping store')

-- the errors of a run with a state file that may come whatever the input is: in loading and saving the file, and in
-- reading and writing
abbrev pub IsStoreFault : RunError → Type 0
IsStoreFault e = (e ≡ StateFile) ⊎ (e ≡ Memory) ⊎ IsReadingFault e

-- the text is the view of the input over the strokes of the file of this name
abbrev pub IsShownOver : Conn → Held → List ℕ → List ℕ → List ℕ → Type 0
IsShownOver conn held name input text =
    (old : List ℕ) × (strokes : Strokes) × IsHeldIn held name old × IsStrokesView conn old input text strokes

-- and the file is to keep the join of the strokes that it shows and of what is found there then
abbrev pub IsStoredView : Conn → Held → List ℕ → List ℕ → List ℕ → ToKeep → Type 0
IsStoredView conn held name input text kept =
    (old : List ℕ) × (strokes : Strokes) × (found made : List ℕ) × IsHeldIn held name old
    × IsStrokesView conn old input text strokes × IsHeldIn held name found × IsJoinedOver strokes found made
    × (kept ≡ Some (name, made))

-- an input stops over the strokes of that file, or what it shows is not joined over what is found there then
abbrev pub StoredStops : Conn → Held → List ℕ → List ℕ → RunError → Type 0
StoredStops conn held name input e =
    ((old : List ℕ) × IsHeldIn held name old × KeptStops conn old input e)
    ⊎ ((old text : List ℕ) × (strokes : Strokes) × (found : List ℕ) × IsHeldIn held name old
    × IsStrokesView conn old input text strokes × IsHeldIn held name found × IsNotJoinedOver strokes found e)
