-- What a run shows: from the bytes of the input to the bytes of the image.
use Rattle.std.specs.Prelude.{◌≡◌, ℕ, List, ◌∷◌, ◌⊎◌}
use Rattle.grid_core.specs.declared.conn.Conn.{Conn}
use Rattle.pgm_codec.specs.{Graymap.Graymap, Spelling.PgmSpells, FirstFault.PgmFault, Writing.raw_text}
use Rattle.pgm_codec.specs.{declared.error.PgmError.PgmError}
use Rattle.edit_lang.specs.{Edit.EditSpells, Edit.IsFirstFault, declared.error.EditError.EditError}
use Rattle.stroke_lattice.specs.State.{State}
use Rattle.core_rules.specs.declared.error.CoreError.{CoreError}
use Rattle.derived_views.specs.Shown.{IsShown}
use Rattle.view_session.specs.Input.{IsSplit, HasNoImageLine}
use Rattle.view_session.specs.Merging.{AreMerged, IsFirstRefusal, IsHalted}
use Rattle.run_faults.specs.declared.run_error.RunError.{RunError}
use Rattle.run_faults.specs.declared.run_error.RunError.TheVariants.{NoImage, Edit, Pgm, Core, Memory}
use Rattle.core_rules.specs.declared.error.CoreError.TheVariants as core
use Rattle.edit_lang.specs.declared.error.EditError.TheVariants as edit

-- ---- what is shown

-- the input spells a mask behind its first `image` line, and deltas before it
pub record InputSpells (input : List ℕ) (mask : Graymap) (deltas : List State) : Type 0 where
  pub edits : List ℕ
  pub file : List ℕ
  pub split : IsSplit input edits file
  pub edits_spelled : EditSpells edits deltas
  pub mask_spelled : PgmSpells file mask

-- the image is the one that the input asks for: the join of the old state and of its deltas is this state, and shows it
-- on the mask behind them
pub record IsImageOfView (conn : Conn) (old : State) (input : List ℕ) (state : State) (image : Graymap) : Type 0 where
  pub mask : Graymap
  pub deltas : List State
  pub spelled : InputSpells input mask deltas
  pub merged : AreMerged mask.raster.width mask.raster.height (old ∷ deltas) state
  pub shown : IsShown conn mask state image

-- the text is the view of the input over the old state, and this the state that it shows: the text is the raw spelling
-- of that image
abbrev pub IsView : Conn → State → List ℕ → State → List ℕ → Type 0
IsView conn old input state text = (image : Graymap) × IsImageOfView conn old input state image ×
    (text ≡ raw_text image)

-- ---- what is refused

-- why deltas are refused on a mask
abbrev pub Refusal : Type 1
Refusal = List State → Graymap → RunError → Type 0

-- for no reason
abbrev pub no_more : Refusal
no_more deltas mask e = ⊥

-- the image file has a fault, or it spells a mask, on which the deltas are refused
abbrev pub FileIsRefusedBy : Refusal → List ℕ → List State → RunError → Type 0
FileIsRefusedBy Why file deltas e =
    ((fault : PgmError) × (e ≡ Pgm fault) × PgmFault file fault)
    ⊎ ((mask : Graymap) × PgmSpells file mask × Why deltas mask e)

-- the edit text has a fault, or it spells deltas, with which the file is refused
abbrev pub PartsAreRefusedBy : Refusal → List ℕ → List ℕ → RunError → Type 0
PartsAreRefusedBy Why edits file e =
    ((fault : EditError) × (e ≡ Edit fault) × IsFirstFault edits fault)
    ⊎ ((deltas : List State) × EditSpells edits deltas × FileIsRefusedBy Why file deltas e)

-- the input has no `image` line, or it splits, and its parts are refused
abbrev pub InputIsRefusedBy : Refusal → List ℕ → RunError → Type 0
InputIsRefusedBy Why input e =
    ((e ≡ NoImage) × HasNoImageLine input)
    ⊎ ((edits file : List ℕ) × IsSplit input edits file × PartsAreRefusedBy Why edits file e)

-- the first delta that can not be merged is the reason
abbrev pub DeltasAreRefused : Refusal
DeltasAreRefused deltas mask e =
    (why : CoreError) × (e ≡ Core why) × IsFirstRefusal mask.raster.width mask.raster.height deltas why

-- why an input has no view over the old state: the first that is met, the old state merged before its deltas
abbrev pub InputIsRefused : State → List ℕ → RunError → Type 0
InputIsRefused old input e = InputIsRefusedBy (λ deltas mask why. DeltasAreRefused (old ∷ deltas) mask why) input e

-- ---- where memory runs out

-- in reading the edit text, which there is where the input has an `image` line
abbrev pub EditsHalt : List ℕ → RunError → Type 0
EditsHalt input e = (e ≡ Edit edit.Memory) × (edits file : List ℕ) × IsSplit input edits file

-- in merging, at a delta that could be taken; or behind it, where all are merged
abbrev pub DeltasHalt : Refusal
DeltasHalt deltas mask e =
    ((e ≡ Core core.Memory) × IsHalted mask.raster.width mask.raster.height deltas)
    ⊎ ((e ≡ Memory) × (state : State) × AreMerged mask.raster.width mask.raster.height deltas state)

-- where a run on the input stops: at what refuses it, or for want of memory in its edit text or behind what it spells
abbrev pub InputStops : State → List ℕ → RunError → Type 0
InputStops old input e =
    InputIsRefused old input e
    ⊎ EditsHalt input e
    ⊎ ((mask : Graymap) × (deltas : List State) × InputSpells input mask deltas × DeltasHalt (old ∷ deltas) mask e)
