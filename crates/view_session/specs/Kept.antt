-- A view whose strokes are kept in a state file: what it shows over the old bytes of the file, and the bytes that
-- follow them.
use Rattle.std.specs.Prelude.{◌≡◌, ℕ, ◌<◌, List, ◌++◌, ◌⊎◌, length, map, All}
use Rattle.grid_core.specs.declared.conn.Conn.{Conn}
use Rattle.sha2.specs.Sha256.{sha256}
use Rattle.pgm_codec.specs.{Graymap.Graymap, Writing.raw_text}
use Rattle.stroke_lattice.specs.{State.State, Pieces.pieces_of}
use Rattle.spd_codec.specs.StateFile.{SpellsFile, IsFileFault, file_text}
use Rattle.spd_codec.specs.{declared.frame.Frame.Frame, declared.error.SpdError.SpdError}
use Rattle.view_session.specs.Merging.{AreMerged}
use Rattle.view_session.specs.View.{InputSpells, Refusal, InputIsRefusedBy, DeltasAreRefused, DeltasHalt, EditsHalt}
use Rattle.derived_views.specs.Shown.{IsShown}
use Rattle.run_faults.specs.declared.run_error.RunError.{RunError}
use Rattle.run_faults.specs.declared.run_error.RunError.TheVariants.{Spd, OtherMask}
use Rattle.spd_codec.specs.declared.error.SpdError.TheVariants as spd

-- the fingerprint of a mask: the SHA-256 of its raw spelling
abbrev pub print_of : Graymap → List ℕ
print_of mask = sha256 (raw_text mask)

-- the frame is meant for this connectivity and the mask of this fingerprint
abbrev pub IsFrameFor : Conn → List ℕ → Frame → Type 0
IsFrameFor conn print frame = (frame.conn ≡ conn) × (frame.print ≡ print)

-- the strokes and tombstones of frames, in their order
abbrev pub deltas_of : List Frame → List State
deltas_of frames = map (λ frame. frame.delta) frames

-- the bytes of a state file spell frames, all for this connectivity and fingerprint, and these are their deltas
pub record FileSpells (conn : Conn) (print old : List ℕ) (kept : List State) : Type 0 where
  pub frames : List Frame
  pub spelled : SpellsFile old frames
  pub all_for : All (IsFrameFor conn print) frames
  pub deltas : kept ≡ deltas_of frames

-- they spell frames, and one is for another connectivity or fingerprint
pub record FileIsOfAnother (conn : Conn) (print old : List ℕ) : Type 0 where
  pub frames : List Frame
  pub spelled : SpellsFile old frames
  pub not_all_for : All (IsFrameFor conn print) frames → ⊥

-- the bytes that a state is kept in: its pieces, each in a frame for this connectivity and mask
abbrev pub kept_text : Conn → Graymap → State → List ℕ
kept_text conn mask state = file_text conn (print_of mask) (pieces_of 1400 state)

-- the input spells this mask behind deltas, the old bytes spell others for it, and the state is the join of all
pub record IsGathered (conn : Conn) (old input : List ℕ) (mask : Graymap) (state : State) : Type 0 where
  pub deltas : List State
  pub spelled : InputSpells input mask deltas
  pub kept : List State
  pub old_spelled : FileSpells conn (print_of mask) old kept
  pub merged : AreMerged mask.raster.width mask.raster.height (kept ++ deltas) state

-- the image is the one that the input asks for over the old bytes of a state file, and these are the new bytes: the
-- join of the file's deltas and of the input's is this state; it shows the image, and the new bytes keep its pieces
pub record IsImageKept (conn : Conn) (old input : List ℕ) (state : State) (image : Graymap) (new : List ℕ) : Type 0
  where
    pub mask : Graymap
    pub deltas : List State
    pub spelled : InputSpells input mask deltas
    pub kept : List State
    pub old_spelled : FileSpells conn (print_of mask) old kept
    pub merged : AreMerged mask.raster.width mask.raster.height (kept ++ deltas) state
    pub shown : IsShown conn mask state image
    pub new_is : new ≡ kept_text conn mask state
    pub new_spelled : FileSpells conn (print_of mask) new (pieces_of 1400 state)

-- the text is the view of the input over the old bytes, and these are the new ones: it is the raw spelling of that
-- image
abbrev pub IsKeptView : Conn → List ℕ → List ℕ → List ℕ → List ℕ → Type 0
IsKeptView conn old input text new =
    (state : State) × (image : Graymap) × IsImageKept conn old input state image new × (text ≡ raw_text image)

-- the old bytes have a fault, or are for another image, or spell deltas with which those of the input are refused
abbrev pub OldIsRefused : Conn → List ℕ → Refusal
OldIsRefused conn old deltas mask e =
    ((fault : SpdError) × (e ≡ Spd fault) × IsFileFault old fault)
    ⊎ ((e ≡ OtherMask) × FileIsOfAnother conn (print_of mask) old)
    ⊎ ((kept : List State) × FileSpells conn (print_of mask) old kept × DeltasAreRefused (kept ++ deltas) mask e)

-- why an input has no view over the old bytes: the first that is met
abbrev pub KeptIsRefused : Conn → List ℕ → List ℕ → RunError → Type 0
KeptIsRefused conn old input e = InputIsRefusedBy (OldIsRefused conn old) input e

-- where memory runs out behind the reading: in merging or behind it, or in writing the bytes of what is merged
abbrev pub MergedHalts : Refusal
MergedHalts deltas mask e =
    DeltasHalt deltas mask e
    ⊎ ((e ≡ Spd spd.Memory) × (state : State) × AreMerged mask.raster.width mask.raster.height deltas state)

-- where it runs out over the old bytes: in reading them, if there are any; or behind them, where they are for this
-- image
abbrev pub OldHalts : Conn → List ℕ → Refusal
OldHalts conn old deltas mask e =
    ((e ≡ Spd spd.Memory) × (0 < length old))
    ⊎ ((kept : List State) × FileSpells conn (print_of mask) old kept × MergedHalts (kept ++ deltas) mask e)

-- where a run on the input and the old bytes stops: at what refuses them, or for want of memory in the edit text, or
-- behind what the input spells
abbrev pub KeptStops : Conn → List ℕ → List ℕ → RunError → Type 0
KeptStops conn old input e =
    KeptIsRefused conn old input e
    ⊎ EditsHalt input e
    ⊎ ((mask : Graymap) × (deltas : List State) × InputSpells input mask deltas × OldHalts conn old deltas mask e)
