-- What a page that is served tells, and why none is served.
use Rattle.std.specs.Prelude.{◌≡◌, ◌⊎◌, ◌++◌, ◌∷◌, [], ℕ, ◌≤◌, ◌<◌, ◌^◌, List, codes, decimal}
use Rattle.grid_core.specs.declared.conn.Conn.{Conn}
use Rattle.pgm_codec.specs.Spelling.{line_feed}
use Rattle.run_faults.specs.{RunError.IsTransferFault, declared.run_error.RunError.RunError}
use Rattle.run_faults.specs.{declared.run_error.RunError.TheVariants.Link}
use Rattle.view_session.specs.Store.{Held, IsHeldIn}
use Rattle.page_board.specs.{Board.PageBoard, Keeping.KeepsBoard, Keeping.HasAllIn}
use Rattle.page_server.specs.Opening.{IsOpenedFrom, IsNotOpenedFrom, IsOpeningFault}

-- the address of a page that is asked at this port under this key
abbrev pub address_of : ℕ → List ℕ → List ℕ
address_of port key = codes "http://127.0.0.1:" ++ (decimal port ++ (codes "/" ++ (key ++ codes "/")))

-- its line, with its LF
abbrev pub address_line : ℕ → List ℕ → List ℕ
address_line port key = address_of port key ++ line_feed ∷ []

-- an HTML page that leads to an address at once, or by a link where a browser does not forward; no sign of an address
-- means anything of its own in HTML
abbrev pub forwarding : List ℕ → List ℕ
forwarding to =
    codes "<!DOCTYPE html>\n<meta charset='utf-8'>\n<title>Seedpaint</title><meta http-equiv='refresh' content='0; url="
    ++ (to ++ (codes "'>\n<p><a href='" ++ (to ++ codes "'>Paint</a></p>\n")))

-- the one that leads to the page
abbrev pub forward_page : ℕ → List ℕ → List ℕ
forward_page port key = forwarding (address_of port key)

-- why a page is not served, or no longer: D3; a fault in opening its board that may come whatever the mask is, or one
-- of a device; or the mask's file is refused, over what the state file held
abbrev pub IsNotServed : Conn → Held → List ℕ → RunError → Type 0
IsNotServed conn held name e =
    (e ≡ Link) ⊎ IsOpeningFault e ⊎ IsTransferFault e
    ⊎ ((old input : List ℕ) × IsHeldIn held name old × IsNotOpenedFrom conn old input e)

-- the board is that of some mask and of these bytes of a state file, in a run of some number that a page has exactly
pub record IsServed (conn : Conn) (side : ℕ) (kept : List ℕ) (board : PageBoard) : Type 0 where
  pub run : ℕ
  pub some : 1 ≤ run
  pub small : run < 2 ^ 53
  pub input : List ℕ
  pub opened : IsOpenedFrom conn side run kept input board

-- these bytes are those of the state file, where it is known; they keep the board, and the board has what they keep
pub record IsKeptIn (held : Held) (name kept : List ℕ) (board : PageBoard) : Type 0 where
  pub is_held : IsHeldIn held name kept
  pub keeps : KeepsBoard board kept
  pub had : HasAllIn board kept
