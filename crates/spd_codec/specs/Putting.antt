-- What the functions that write a frame put behind the bytes. Private functions have it in their contracts.
use Rattle.std.specs.Prelude.{◌≡◌, ℕ, ◌<◌, ◌^◌, List, ◌++◌, flat_map}
use Rattle.std.specs.List.{AllByRecursion}
use Rattle.grid_core.specs.declared.conn.Conn.{Conn}
use Rattle.stroke_lattice.specs.State.{State}
use Rattle.spd_codec.specs.{declared.version.Version.TheVariants.Second, Spelling.frame_text, Spelling.Spells}

-- the tag has 16 bytes
abbrev pub TagFits : ℕ → Type 0
TagFits tag = tag < 2 ^ 128

-- the texts of these were put behind the bytes, one after another, and each of them fits into a frame
pub record PutsEach {X : Type 0} (text_of : X → List ℕ) (Fits : X → Type 0) (xs : List X) (old new : List ℕ) : Type 0
  where
    pub text : new ≡ old ++ flat_map text_of xs
    pub fits : AllByRecursion Fits xs

-- the frame of the state was put behind the bytes, as this text of it, and it spells the state
pub record PutsFrame (conn : Conn) (print : List ℕ) (s : State) (text_of : List ℕ → List ℕ) (old new : List ℕ) : Type 0
  where
    pub text : new ≡ old ++ text_of (frame_text Second conn print s)
    pub spells : Spells (frame_text Second conn print s) conn print s
