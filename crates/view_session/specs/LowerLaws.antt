-- The laws of the crates below, as the functions that have them for their contracts give them.
use Rattle.std.specs.Prelude.{◌≡◌, ◌↔◌, ℕ, List, [], ◌∷◌, ◌++◌}
use Rattle.grid_core.specs.{Laws.AtMostOneReconstruction, Laws.ReachRisesWithMarker, RasterLaws.EqualPixelsEqualImages}
use Rattle.marker_tiles.specs.Laws.{AtMostOneMarker}
use Rattle.edit_lang.specs.{Edit.EditSpells, Edit.IsFirstFault, declared.error.EditError.EditError}
use Rattle.pgm_codec.specs.{Graymap.Graymap, Spelling.PgmSpells, FirstFault.PgmFault, declared.error.PgmError.PgmError}
use Rattle.stroke_lattice.specs.State.{State, nothing, IsJoin, IsJoinOf}
use Rattle.spd_codec.specs.StateFile.{SpellsFile, IsFileFault}
use Rattle.spd_codec.specs.{declared.frame.Frame.Frame, declared.error.SpdError.SpdError}

-- a text is read in one way
pub record ReadingLaws : Type 0 where
  pub one_list : (text : List ℕ) (deltas others : List State) → EditSpells text deltas → EditSpells text others → deltas
      ≡ others
  pub no_edit_fault : (text : List ℕ) (deltas : List State) (e : EditError) → EditSpells text deltas → IsFirstFault text
      e → ⊥
  pub one_edit_fault : (text : List ℕ) (d e : EditError) → IsFirstFault text d → IsFirstFault text e → d ≡ e
  pub one_image : (text : List ℕ) (a b : Graymap) → PgmSpells text a → PgmSpells text b → a ≡ b
  pub no_pgm_fault : (text : List ℕ) (image : Graymap) (e : PgmError) → PgmSpells text image → PgmFault text e → ⊥
  pub one_pgm_fault : (text : List ℕ) (a b : PgmError) → PgmFault text a → PgmFault text b → a ≡ b

-- states have one join
abbrev pub JoinLaw : Type 0
JoinLaw = (states : List State) (j k : State) → IsJoinOf states j → IsJoinOf states k → j ≡ k

-- to join a list with one more state is to join that state with the join of the list
abbrev pub LongerJoinLaw : Type 0
LongerJoinLaw = (states : List State) (s delta join : State) → IsJoinOf states s → IsJoinOf (states ++ delta ∷ []) join
    ↔ IsJoin s delta join

-- no states have the state without strokes and tombstones for their join
abbrev pub EmptyJoinLaw : Type 0
EmptyJoinLaw = (join : State) → IsJoinOf [] join ↔ (join ≡ nothing)

-- the laws of images and markers
pub record ImageLaws : Type 0 where
  pub rises : ReachRisesWithMarker
  pub one_marker : AtMostOneMarker
  pub one_reconstruction : AtMostOneReconstruction
  pub equal_images : EqualPixelsEqualImages

-- a state file is read in one way
pub record FileLaws : Type 0 where
  pub one_file : (bytes : List ℕ) (frames others : List Frame) → SpellsFile bytes frames → SpellsFile bytes others
      → frames ≡ others
  pub no_fault : (bytes : List ℕ) (frames : List Frame) (e : SpdError) → SpellsFile bytes frames
      → IsFileFault bytes e → ⊥
  pub one_fault : (bytes : List ℕ) (d e : SpdError) → IsFileFault bytes d → IsFileFault bytes e → d ≡ e
