-- What a board becomes where it takes an edit text or a state file, and why it refuses one.
use Rattle.std.specs.Prelude.{◌≡◌, ℕ, List, ◌++◌, ◌∷◌, [], ◌⊎◌}
use Rattle.byte_devices.specs.Device.{count_after}
use Rattle.stroke_lattice.specs.{State.State, Change.Turnover}
use Rattle.edit_lang.specs.{Edit.EditSpells, Edit.IsFirstFault, declared.error.EditError.EditError}
use Rattle.spd_codec.specs.{StateFile.IsFileFault, declared.error.SpdError.SpdError}
use Rattle.core_rules.specs.{Merge.IsMerged, Merge.IsRefused, Runs.IsDirty, declared.error.CoreError.CoreError}
use Rattle.view_session.specs.Kept.{print_of, FileSpells, FileIsOfAnother}
use Rattle.view_session.specs.{Merging.AreMerged, View.DeltasAreRefused}
use Rattle.run_faults.specs.declared.run_error.RunError.{RunError}
use Rattle.run_faults.specs.declared.run_error.RunError.TheVariants.{Edit, Core, Spd, OtherMask}
use Rattle.page_board.specs.{Board.PageBoard, Board.mask_of, Marking.AreMarkedWhere}

-- the core took the delta, which the board counts, with a step more and its news; the tiles that are left dirty have
-- the new step, and the others theirs; and nothing else changes
pub record IsTaken (old : PageBoard) (delta : State) (new : PageBoard) : Type 0 where
  pub turnover : Turnover
  pub merged : IsMerged old.core delta turnover new.core
  pub version : new.version ≡ count_after old.version 1
  pub step : new.step ≡ count_after old.step 1
  pub marked : AreMarkedWhere (IsDirty new.core) new.step old.shown new.shown
  pub news : new.news ≡ old.news ++ record { step = new.step; change = turnover } ∷ []
  pub rest : new ≡ record old {
    core = new.core;
    version = new.version;
    step = new.step;
    shown = new.shown;
    news = new.news;
  }

-- the core took the join of the deltas, each of which fits the mask
abbrev pub AreTakenTogether : PageBoard → List State → PageBoard → Type 0
AreTakenTogether old deltas new =
    (delta : State) × AreMerged old.core.mask.width old.core.mask.height deltas delta × IsTaken old delta new

-- why deltas are refused: the first of them that those before it do not take; or the reason for which the core refuses
-- their join
abbrev pub AreRefusedTogether : PageBoard → List State → RunError → Type 0
AreRefusedTogether b deltas e =
    DeltasAreRefused deltas (mask_of b) e
    ⊎ ((delta : State) × (why : CoreError) × AreMerged b.core.mask.width b.core.mask.height deltas delta
    × IsRefused b.core delta why × (e ≡ Core why))

-- ---- texts

-- the board took what the text spells
abbrev pub TextIsTaken : PageBoard → List ℕ → PageBoard → Type 0
TextIsTaken old text new = (deltas : List State) × EditSpells text deltas × AreTakenTogether old deltas new

-- the text has a fault, or what it spells is refused
abbrev pub TextIsRefused : PageBoard → List ℕ → RunError → Type 0
TextIsRefused b text e =
    ((fault : EditError) × (e ≡ Edit fault) × IsFirstFault text fault)
    ⊎ ((deltas : List State) × EditSpells text deltas × AreRefusedTogether b deltas e)

-- ---- state files

-- the board took the frames of the bytes, each of which is for its mask and connectivity
abbrev pub FileIsTaken : PageBoard → List ℕ → PageBoard → Type 0
FileIsTaken old bytes new =
    (deltas : List State) × FileSpells old.core.conn (print_of (mask_of old)) bytes deltas
    × AreTakenTogether old deltas new

-- the bytes have a fault, or a frame of them is for another mask or connectivity, or their frames are refused
abbrev pub FileIsRefused : PageBoard → List ℕ → RunError → Type 0
FileIsRefused b bytes e =
    ((fault : SpdError) × (e ≡ Spd fault) × IsFileFault bytes fault)
    ⊎ ((e ≡ OtherMask) × FileIsOfAnother b.core.conn (print_of (mask_of b)) bytes)
    ⊎ ((deltas : List State) × FileSpells b.core.conn (print_of (mask_of b)) bytes deltas
    × AreRefusedTogether b deltas e)
