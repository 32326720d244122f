-- The laws of frames and of state files, as statements. Public functions have them as their contracts.
use Rattle.std.specs.Prelude.{◌≡◌, ◌⊎◌, ℕ, ◌+◌, ◌*◌, ◌<◌, List, [], ◌++◌, length, sum_by}
use Rattle.std.specs.List.{AllByRecursion}
use Rattle.grid_core.specs.declared.conn.Conn.{Conn}
use Rattle.stroke_core.specs.Seed.{byte_len_of}
use Rattle.stroke_lattice.specs.State.{State}
use Rattle.stroke_lattice.specs.Pieces.{frame_length, strokes_of, tombstones_of}
use Rattle.spd_codec.specs.{declared.error.SpdError.SpdError, declared.frame.Frame.Frame}
use Rattle.spd_codec.specs.{declared.version.Version.Version, declared.version.Version.TheVariants.Second}
use Rattle.spd_codec.specs.{Spelling.SpellsFrame, Spelling.IsWritable, Spelling.frame_text, StateFile.SpellsFile}
use Rattle.spd_codec.specs.declared.error.SpdError.TheVariants as errors

-- bytes have at most one fault, the first, and none where they spell something. Want of memory is no fault of theirs
pub record HaveOneFault {X : Type 0} (Spelled : List ℕ → X → Type 0) (IsFaultOf : List ℕ → SpdError → Type 0) : Type 0
  where
    pub memory : (bytes : List ℕ) → IsFaultOf bytes errors.Memory → ⊥
    pub first : (bytes : List ℕ) (d e : SpdError) → IsFaultOf bytes d → IsFaultOf bytes e → d ≡ e
    pub none : (bytes : List ℕ) (x : X) (e : SpdError) → Spelled bytes x → IsFaultOf bytes e → ⊥

-- all bytes spell something or have a fault
abbrev pub SpellOrHaveFault : {X : Type 0} → (List ℕ → X → Type 0) → (List ℕ → SpdError → Type 0) → Type 0
SpellOrHaveFault Spelled IsFaultOf =
    (bytes : List ℕ) → AllByRecursion (λ b. b < 256) bytes
    → ((x : _) × Spelled bytes x) ⊎ ((e : SpdError) × IsFaultOf bytes e)

-- a frame has at most one spelling in each version
abbrev pub OneSpelling : Type 0
OneSpelling =
    (a b : List ℕ) (f : Frame) (first : SpellsFrame a f) (second : SpellsFrame b f) → first.version ≡ second.version
    → a ≡ b

-- where bytes that spell a frame begin others that do, these are the same
abbrev pub NoSpellingBeginsAnother : Type 0
NoSpellingBeginsAnother =
    (bytes more : List ℕ) (a b : Frame) → SpellsFrame bytes a → SpellsFrame (bytes ++ more) b → (more ≡ []) × (a ≡ b)

-- the text of a frame has the length that its strokes and tombstones say: 41 bytes of head, those of each stroke, and
-- 16 of each tombstone
pub record FrameTextHasItsLength : Type 0 where
  pub text : (conn : Conn) (print : List ℕ) (s : State) → length print ≡ 32
      → length (frame_text Second conn print s) ≡ frame_length s
  pub parts : (s : State) → frame_length s ≡ 41 + sum_by (λ e. byte_len_of e.1.shape) (strokes_of s)
      + 16 * length (tombstones_of s)

-- the text of a frame that has one in the version spells that frame and no other
pub record FrameTextIsRead : Type 0 where
  pub spelled : (version : Version) (f : Frame) → IsWritable version f
      → SpellsFrame (frame_text version f.conn f.print f.delta) f
  pub only : (version : Version) (f other : Frame) → IsWritable version f
      → SpellsFrame (frame_text version f.conn f.print f.delta) other → other ≡ f

-- the bytes of two state files, one behind the other, are a state file of the frames of both
abbrev pub JoinedFilesSpellBoth : Type 0
JoinedFilesSpellBoth =
    (a b : List ℕ) (frames others : List Frame) → SpellsFile a frames → SpellsFile b others
    → SpellsFile (a ++ b) (frames ++ others)
