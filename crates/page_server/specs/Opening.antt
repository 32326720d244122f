-- The board of a page, as it is opened over a mask that a source gives and the strokes that a state file keeps.
use Rattle.std.specs.Prelude.{◌≡◌, ◌⊎◌, ◌↔◌, ◌++◌, ◌∷◌, [], ℕ, List, codes}
use Rattle.grid_core.specs.declared.conn.Conn.{Conn}
use Rattle.pgm_codec.specs.{Graymap.Graymap, Spelling.PgmSpells, Spelling.line_feed}
use Rattle.view_session.specs.{Kept.KeptIsRefused, Kept.OldIsRefused, View.FileIsRefusedBy}
use Rattle.run_faults.specs.{RunError.IsMemory, declared.run_error.RunError.RunError}
use Rattle.run_faults.specs.{declared.run_error.RunError.TheVariants.StateFile}
use Rattle.page_board.specs.{Board.PageBoard, Opening.IsOpenedOver}

-- the board is the one of the mask that the input spells, with what the old bytes of a state file keep for it
abbrev pub IsOpenedFrom : Conn → ℕ → ℕ → List ℕ → List ℕ → PageBoard → Type 0
IsOpenedFrom conn side run old input board =
    (mask : Graymap) × PgmSpells input mask × IsOpenedOver mask conn side run old board

-- why there is no such board: the input has a fault, or it spells a mask for which the old bytes are refused
abbrev pub IsNotOpenedFrom : Conn → List ℕ → List ℕ → RunError → Type 0
IsNotOpenedFrom conn old input e = FileIsRefusedBy (OldIsRefused conn old) input [] e

-- the errors that may come whatever the input is
abbrev pub IsOpeningFault : RunError → Type 0
IsOpeningFault e = (e ≡ StateFile) ⊎ IsMemory e

-- the input of a view of this mask's file, without strokes
abbrev pub plain_input : List ℕ → List ℕ
plain_input file = codes "image" ++ line_feed ∷ file

-- a mask's file is refused over a state file where a view of it without strokes is, and for the same reason
abbrev pub IsRefusedAsAView : Type 0
IsRefusedAsAView =
    (conn : Conn) (old file : List ℕ) (e : RunError)
    → IsNotOpenedFrom conn old file e ↔ KeptIsRefused conn old (plain_input file) e
