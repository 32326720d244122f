-- State files: frames one after another, each behind its length in two bytes.
use Rattle.std.specs.Prelude.{◌≡◌, ℕ, ◌<◌, ◌≤◌, ◌^◌, List, [], ◌∷◌, ◌++◌, map, length, take, flat_map}
use Rattle.grid_core.specs.declared.conn.Conn.{Conn}
use Rattle.stroke_lattice.specs.State.{State}
use Rattle.spd_codec.specs.{declared.error.SpdError.SpdError, declared.frame.Frame.Frame}
use Rattle.spd_codec.specs.{declared.version.Version.TheVariants.Second, Faults.IsFault}
use Rattle.spd_codec.specs.Spelling.{short, frame_text, max_bytes, Spells}
use Rattle.spd_codec.specs.declared.error.SpdError.TheVariants as errors

-- the bytes of a frame behind their length
abbrev pub with_length : List ℕ → List ℕ
with_length text = short (length text) ++ text

-- the frames of these pieces, each in the second version behind its length
abbrev pub file_text : Conn → List ℕ → List State → List ℕ
file_text conn print pieces = flat_map (λ piece. with_length (frame_text Second conn print piece)) pieces

-- a frame for each piece
abbrev pub frames_of : Conn → List ℕ → List State → List Frame
frames_of conn print pieces = map (λ piece. record { conn = conn; print = print; delta = piece }) pieces

-- the bytes begin with a frame behind its length, and these are left
pub record StartsFrame (bytes : List ℕ) (frame : Frame) (rest : List ℕ) : Type 0 where
  pub text : List ℕ
  pub spells : Spells text frame.conn frame.print frame.delta
  pub parts : bytes ≡ with_length text ++ rest

-- the bytes are those of these frames, in their order
abbrev pub SpellsFile : List ℕ → List Frame → Type 0
SpellsFile bytes [] = bytes ≡ []
SpellsFile bytes (frame ∷ frames) = (rest : List ℕ) × StartsFrame bytes frame rest × SpellsFile rest frames

-- what is wrong with bytes that should begin with a frame of this length: the length is too great, or the bytes
-- end inside the frame, or its bytes have a fault
pub data IsBodyFault (long : ℕ) (bytes : List ℕ) (e : SpdError) : Type 0 where
  too_long : max_bytes < long → e ≡ errors.TooLong → IsBodyFault long bytes e
  cut_short : long ≤ max_bytes → length bytes < long → e ≡ errors.Truncated → IsBodyFault long bytes e
  in_frame : long ≤ max_bytes → long ≤ length bytes → IsFault (take long bytes) e → IsBodyFault long bytes e

-- what is wrong with bytes that should begin with a frame behind its length: they end inside the length, or
-- something is wrong behind it
pub data IsNextFault (bytes : List ℕ) (e : SpdError) : Type 0 where
  in_length : length bytes ≡ 1 → e ≡ errors.Truncated → IsNextFault bytes e
  behind_length : (long : ℕ) (rest : List ℕ) → long < 2 ^ 16 → bytes ≡ short long ++ rest → IsBodyFault long rest e
      → IsNextFault bytes e

-- the first fault of the bytes of a state file: that of a frame behind others that stand there rightly
pub record IsFileFault (bytes : List ℕ) (e : SpdError) : Type 0 where
  pub frames : List Frame
  pub before : List ℕ
  pub rest : List ℕ
  pub read : SpellsFile before frames
  pub parts : bytes ≡ before ++ rest
  pub fault : IsNextFault rest e
