-- Edit lines joined into the bytes of a state file, without an image.
use Rattle.std.specs.Prelude.{◌≡◌, ◌⊎◌, ℕ, List, ◌++◌, length}
use Rattle.grid_core.specs.{declared.conn.Conn.Conn, Raster.IsImageSize}
use Rattle.stroke_lattice.specs.{State.State, Pieces.pieces_of}
use Rattle.edit_lang.specs.{Edit.EditSpells, Edit.IsFirstFault, declared.error.EditError.EditError}
use Rattle.spd_codec.specs.{StateFile.IsFileFault, StateFile.file_text, declared.error.SpdError.SpdError}
use Rattle.core_rules.specs.declared.error.CoreError.{CoreError}
use Rattle.view_session.specs.{Merging.AreMerged, Merging.IsFirstRefusal, Kept.FileIsOfAnother, Kept.FileSpells}
use Rattle.run_faults.specs.declared.run_error.RunError.{RunError}
use Rattle.run_faults.specs.declared.run_error.RunError.TheVariants.{Core, Edit, OtherMask, Spd}
use Rattle.seedpaint_c.specs.Buffers.{IsAnswerCode}

-- the new bytes of a state file keep the join of what the old ones keep for this connectivity and fingerprint, and of
-- what the lines spell, on an image of this width and height
pub record IsMergedInto (conn : Conn) (print : List ℕ) (w h : ℕ) (old edits new : List ℕ) : Type 0 where
  pub deltas : List State
  pub edits_spelled : EditSpells edits deltas
  pub kept : List State
  pub old_spelled : FileSpells conn print old kept
  pub state : State
  pub merged : AreMerged w h (kept ++ deltas) state
  pub new_is : new ≡ file_text conn print (pieces_of 1400 state)
  pub new_spelled : FileSpells conn print new (pieces_of 1400 state)

-- the old bytes have a fault, or are for another image, or spell deltas with which those of the lines are refused
abbrev pub OldIsRefused : Conn → List ℕ → ℕ → ℕ → List ℕ → List State → RunError → Type 0
OldIsRefused conn print w h old deltas e =
    ((fault : SpdError) × (e ≡ Spd fault) × IsFileFault old fault)
    ⊎ ((e ≡ OtherMask) × FileIsOfAnother conn print old)
    ⊎ ((kept : List State) × (why : CoreError) × FileSpells conn print old kept × (e ≡ Core why)
    × IsFirstRefusal w h (kept ++ deltas) why)

-- why they are not joined: the first fault of the lines, or else of the old bytes with what the lines spell
abbrev pub MergingIsRefused : Conn → List ℕ → ℕ → ℕ → List ℕ → List ℕ → RunError → Type 0
MergingIsRefused conn print w h old edits e =
    ((fault : EditError) × (e ≡ Edit fault) × IsFirstFault edits fault)
    ⊎ ((deltas : List State) × EditSpells edits deltas × OldIsRefused conn print w h old deltas e)

-- the code is one of those of a merge: 5 only of sides that no image has, 6 only of a fingerprint of another length
abbrev pub IsMergeCode : ℕ → ℕ → ℕ → List ℕ → ℕ → Type 0
IsMergeCode number w h print code =
    IsAnswerCode number code ⊎ ((code ≡ 5) × (IsImageSize w h → ⊥)) ⊎ ((code ≡ 6) × (length print ≡ 32 → ⊥))
