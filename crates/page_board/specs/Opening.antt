-- A board as it is opened.
use Rattle.std.specs.Prelude.{◌≡◌, ℕ, ◌⊎◌, List, [], ◌∷◌, length, replicate}
use Rattle.grid_core.specs.{declared.conn.Conn.Conn, Tiles.IsTileSide}
use Rattle.stroke_lattice.specs.{State.State, State.nothing, Change.Turnover, Change.IsChange}
use Rattle.pgm_codec.specs.Graymap.{Graymap}
use Rattle.core_rules.specs.{Work.Core, Opening.opened, declared.error.CoreError.TheVariants.BadSide}
use Rattle.reset_core.specs.Starting.{IsBegunWith}
use Rattle.view_session.specs.{Kept.print_of, Kept.FileSpells, Kept.OldIsRefused, Merging.AreMerged}
use Rattle.run_faults.specs.{RunError.IsMemory, declared.run_error.RunError.RunError}
use Rattle.page_board.specs.{Board.PageBoard, declared.news.News.News}
use Rattle.run_faults.specs.declared.run_error.RunError.TheVariants as errors

-- the board of a mask as it is opened: no strokes, and all tiles changed at step 1
abbrev pub opened_board : Graymap → Conn → ℕ → ℕ → PageBoard
opened_board mask conn side run =
    let core : Core = opened mask.raster conn side 0 in
    record {
      core = core;
      maxval = mask.maxval;
      run = run;
      version = 0;
      step = 1;
      shown = replicate (length core.tiles) 1;
      news = [];
    }

-- the board is one of this mask as it is opened, and tiles may have the side
abbrev pub IsOpenedBoard : Graymap → Conn → ℕ → ℕ → PageBoard → Type 0
IsOpenedBoard mask conn side run b = (b ≡ opened_board mask conn side run) × IsTileSide side

-- the state is what the bytes of a state file keep for this mask and connectivity: the join of the frames that they
-- spell, each of which fits the mask. Where there are no bytes it is the join of none
pub record IsKeptFor (mask : Graymap) (conn : Conn) (old : List ℕ) (state : State) : Type 0 where
  pub deltas : List State
  pub spelled : FileSpells conn (print_of mask) old deltas
  pub merged : AreMerged mask.raster.width mask.raster.height deltas state

-- the only news, at step 1, are that each live stroke of the state came
abbrev pub AreFirstNews : State → List News → Type 0
AreFirstNews state news =
    (turnover : Turnover) × IsChange nothing state turnover × (news ≡ record { step = 1; change = turnover } ∷ [])

-- the board is one of this mask as it is opened, but that its core begins with the state, so that no work is left and
-- its image is the reconstruction, that the state counts as one that was taken, and that its strokes are news
pub record IsBegunBoard (mask : Graymap) (conn : Conn) (side run : ℕ) (state : State) (board : PageBoard) : Type 0 where
  pub core : IsBegunWith mask.raster conn side 0 state board.core
  pub news : AreFirstNews state board.news
  pub rest : board ≡ record (opened_board mask conn side run) { core = board.core; version = 1; news = board.news }

-- the board begins with what the bytes of a state file keep for this mask and connectivity
abbrev pub IsOpenedOver : Graymap → Conn → ℕ → ℕ → List ℕ → PageBoard → Type 0
IsOpenedOver mask conn side run old board =
    (state : State) × IsKeptFor mask conn old state × IsBegunBoard mask conn side run state board

-- why no board was opened: tiles may not have the side, or they may and memory was wanting
abbrev pub IsNotOpened : ℕ → RunError → Type 0
IsNotOpened side e = ((e ≡ errors.Core BadSide) × (IsTileSide side → ⊥)) ⊎ (IsMemory e × IsTileSide side)

-- why no board was opened over the bytes of a state file: tiles may not have the side, memory was wanting, or the file
-- is refused for the mask
abbrev pub IsNotOpenedOver : Graymap → Conn → ℕ → List ℕ → RunError → Type 0
IsNotOpenedOver mask conn side old e =
    IsNotOpened side e ⊎ (IsTileSide side × (IsMemory e ⊎ OldIsRefused conn old [] mask e))
