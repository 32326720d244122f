-- What a run keeps in a state file, over what is found there.
use Rattle.std.specs.Prelude.{◌≡◌, ℕ, List, [], ◌∷◌, ◌++◌, ◌⊎◌}
use Rattle.grid_core.specs.declared.conn.Conn.{Conn}
use Rattle.pgm_codec.specs.{Graymap.Graymap, Writing.raw_text}
use Rattle.stroke_lattice.specs.{State.State, Pieces.pieces_of}
use Rattle.spd_codec.specs.{StateFile.IsFileFault, StateFile.file_text, declared.error.SpdError.SpdError}
use Rattle.core_rules.specs.declared.error.CoreError.{CoreError}
use Rattle.derived_views.specs.Shown.{IsShown}
use Rattle.view_session.specs.Kept.{print_of, FileSpells, FileIsOfAnother, IsGathered}
use Rattle.view_session.specs.{Merging.AreMerged, Merging.IsStop, declared.joining.Strokes.Strokes}
use Rattle.run_faults.specs.declared.run_error.RunError.{RunError}
use Rattle.run_faults.specs.declared.run_error.RunError.TheVariants.{Core, Spd, OtherMask}
use Rattle.spd_codec.specs.declared.error.SpdError.TheVariants as spd

-- strokes that are kept for this connectivity and mask
pub record AreFor (strokes : Strokes) (conn : Conn) (mask : Graymap) : Type 0 where
  pub conn_is : strokes.conn ≡ conn
  pub print_is : strokes.print ≡ print_of mask
  pub width_is : strokes.width ≡ mask.raster.width
  pub height_is : strokes.height ≡ mask.raster.height

-- the image is the view of the input over the old bytes of a state file, and it shows these strokes, which are the join
-- of all that the old bytes and the input spell
pub record IsStrokesImage (conn : Conn) (old input : List ℕ) (image : Graymap) (strokes : Strokes) : Type 0 where
  pub mask : Graymap
  pub are_for : AreFor strokes conn mask
  pub gathered : IsGathered conn old input mask strokes.state
  pub shown : IsShown conn mask strokes.state image

-- the text is the raw spelling of that image
abbrev pub IsStrokesView : Conn → List ℕ → List ℕ → List ℕ → Strokes → Type 0
IsStrokesView conn old input text strokes =
    (image : Graymap) × IsStrokesImage conn old input image strokes × (text ≡ raw_text image)

-- the bytes that are made keep the join of the deltas that the bytes found spell, and of the strokes
pub record IsJoinedOver (strokes : Strokes) (found made : List ℕ) : Type 0 where
  pub kept : List State
  pub found_spelled : FileSpells strokes.conn strokes.print found kept
  pub joined : State
  pub merged : AreMerged strokes.width strokes.height (kept ++ strokes.state ∷ []) joined
  pub made_is : made ≡ file_text strokes.conn strokes.print (pieces_of 1400 joined)
  pub made_spelled : FileSpells strokes.conn strokes.print made (pieces_of 1400 joined)

-- why strokes are not joined over bytes that are found: these have a fault, or are for another image, or spell deltas
-- with which the strokes can not all be merged; or memory is wanting
abbrev pub IsNotJoinedOver : Strokes → List ℕ → RunError → Type 0
IsNotJoinedOver strokes found e =
    (e ≡ Spd spd.Memory)
    ⊎ ((fault : SpdError) × (e ≡ Spd fault) × IsFileFault found fault)
    ⊎ ((e ≡ OtherMask) × FileIsOfAnother strokes.conn strokes.print found)
    ⊎ ((kept : List State) × (why : CoreError) × FileSpells strokes.conn strokes.print found kept × (e ≡ Core why)
    × IsStop strokes.width strokes.height (kept ++ strokes.state ∷ []) why)

-- so the strokes make bytes over others, and refuse some, and stay as they are
abbrev pub Makes : Strokes → List ℕ → List ℕ → Strokes → Type 0
Makes old found made new = (new ≡ old) × IsJoinedOver old found made

abbrev pub Refuses : Strokes → List ℕ → RunError → Strokes → Type 0
Refuses old found e new = (new ≡ old) × IsNotJoinedOver old found e
