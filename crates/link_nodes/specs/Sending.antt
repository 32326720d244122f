-- What a node sends of what it sees.
use Rattle.std.specs.Prelude.{◌≡◌, ◌⊎◌, ℕ, ◌<◌, List, [], length, Option, Some, MatchOption}
use Rattle.byte_devices.specs.Device.{count_after}
use Rattle.grid_core.specs.declared.conn.Conn.{Conn}
use Rattle.stroke_lattice.specs.State.{State}
use Rattle.spd_codec.specs.{declared.version.Version.TheVariants.Second, Spelling.frame_text}
use Rattle.studio.specs.{Shots.Shot, Chains.Begins, Chains.last_of}
use Rattle.link_nodes.specs.{declared.sight.Next.Next, Cursors.frame_pieces, Cursors.IsNextPiece}

-- these bytes are the frame of the piece of this number of the state, and it is the next one behind the piece of that
pub record IsNextFrame (conn : Conn) (print : List ℕ) (s : State) (last : Option ℕ) (i : ℕ) (frame : List ℕ) : Type 0
  where
    pub piece : State
    pub next : IsNextPiece s last i piece
    pub text : frame ≡ frame_text Second conn print piece

-- the same of the strokes of the shot that was seen last, in a chain that begins with what was learnt
pub record IsNextSeen (conn : Conn) (print : List ℕ) (learnt seen : List Shot) (last : Option ℕ) (i : ℕ)
    (frame : List ℕ) : Type 0 where
  pub shot : Shot
  pub is_last : last_of seen ≡ Some shot
  pub told : Begins seen learnt
  pub next : IsNextFrame conn print shot.state last i frame

-- a look gave no glimpse, which is counted, and nothing more was seen
abbrev pub HasNoGlimpse : ℕ → ℕ → List Shot → List Shot → Type 0
HasNoGlimpse vain vain' seen seen' = (vain' ≡ count_after vain 1) × (seen' ≡ seen)

-- the shot that was seen last has no piece
abbrev pub HasNoPiece : List Shot → Type 0
HasNoPiece seen = (shot : Shot) × (last_of seen ≡ Some shot) × (frame_pieces shot.state ≡ [])

-- it has one
abbrev pub HasPiece : List Shot → Type 0
HasPiece seen = (shot : Shot) × (last_of seen ≡ Some shot) × (0 < length (frame_pieces shot.state))

-- there is nothing to send, where so many looks were in vain before and so many are then
abbrev pub HasNothing : ℕ → ℕ → List Shot → List Shot → Type 0
HasNothing vain vain' seen seen' = HasNoGlimpse vain vain' seen seen' ⊎ HasNoPiece seen'

-- what there is to send of the chain that is then seen, behind the piece that was sent last
abbrev pub IsNext : Conn → List ℕ → List Shot → ℕ → ℕ → List Shot → List Shot → Option ℕ → Option Next → Type 0
IsNext conn print learnt vain vain' seen seen' last next = MatchOption next (HasNothing vain vain' seen seen')
    (λ n. IsNextSeen conn print learnt seen' last n.piece n.frame.items)
