-- What the bytes of a state file keep of a state, and what a state has of them.
use Rattle.std.specs.{Prelude.ℕ, Prelude.List, List.AllByRecursion}
use Rattle.grid_core.specs.declared.conn.Conn.{Conn}
use Rattle.pgm_codec.specs.Graymap.{Graymap}
use Rattle.stroke_lattice.specs.State.{State, IsBelow, IsJoinOf}
use Rattle.view_session.specs.Kept.{print_of, FileSpells}
use Rattle.page_board.specs.Board.{PageBoard, mask_of}

-- the bytes keep at least the state: they spell frames, all for this connectivity and mask, and the join of these has
-- each stroke and tombstone of the state
pub record KeepsAtLeast (conn : Conn) (mask : Graymap) (state : State) (file : List ℕ) : Type 0 where
  pub deltas : List State
  pub spelled : FileSpells conn (print_of mask) file deltas
  pub join : State
  pub joined : IsJoinOf deltas join
  pub below : IsBelow state join

-- the state has all that the bytes keep: they spell frames, all for this connectivity and mask, and it has each stroke
-- and tombstone of each of them
pub record HasAllOf (conn : Conn) (mask : Graymap) (state : State) (file : List ℕ) : Type 0 where
  pub deltas : List State
  pub spelled : FileSpells conn (print_of mask) file deltas
  pub below : AllByRecursion (λ delta. IsBelow delta state) deltas

-- the second bytes keep all that the first ones do: the join of their frames has each frame of the first ones
pub record KeepsAllOf (conn : Conn) (mask : Graymap) (found made : List ℕ) : Type 0 where
  pub deltas : List State
  pub spelled : FileSpells conn (print_of mask) made deltas
  pub join : State
  pub joined : IsJoinOf deltas join
  pub all : HasAllOf conn mask join found

-- the same of the strokes and tombstones of a board, for its connectivity and mask
abbrev pub KeepsBoard : PageBoard → List ℕ → Type 0
KeepsBoard b file = KeepsAtLeast b.core.conn (mask_of b) b.core.state file

abbrev pub HasAllIn : PageBoard → List ℕ → Type 0
HasAllIn b file = HasAllOf b.core.conn (mask_of b) b.core.state file
