-- The bytes of frames: which bytes spell which strokes and tombstones, and for which image. Numbers stand
-- with their high byte first.
use Rattle.std.specs.Prelude.{◌≡◌, ℕ, ◌<◌, ◌≤◌, ◌^◌, List, [], ◌∷◌, ◌++◌, length, codes, flat_map}
use Rattle.std.specs.{Int.w16, Int.w128, Int.to_be_bytes, List.AllByRecursion}
use Rattle.grid_core.specs.declared.conn.Conn.{Conn}
use Rattle.grid_core.specs.declared.conn.Conn.TheVariants.{Four, Eight}
use Rattle.stroke_core.specs.{declared.run.Run.Run, Seed.Seed, Seed.Shape, Seed.Runs, Seed.Disc, Seed.IsCanonical}
use Rattle.stroke_lattice.specs.{State.State, Pieces.strokes_of, Pieces.tombstones_of}
use Rattle.spd_codec.specs.{declared.frame.Frame.Frame, declared.version.Version.Version}
use Rattle.spd_codec.specs.declared.version.Version.TheVariants.{First, Second}

-- ---- fields

-- the four bytes that a frame begins with
abbrev pub magic : Version → List ℕ
magic First = codes "SPD1"
magic Second = codes "SPD2"

-- the byte of the connectivity: 4 or 8
abbrev pub conn_byte : Conn → ℕ
conn_byte Four = 4
conn_byte Eight = 8

-- a number in two bytes
abbrev pub short : ℕ → List ℕ
short n = to_be_bytes w16 n

-- a tag in 16 bytes
abbrev pub tag_text : ℕ → List ℕ
tag_text tag = to_be_bytes w128 tag

-- ---- strokes

-- a run: y, x0 and x1
abbrev pub run_text : Run → List ℕ
run_text run = short run.y ++ short run.x0 ++ short run.x1

-- what a stroke is painted on: the number of runs and the runs, or the disc's x, y and radius
abbrev pub shape_text : Shape → List ℕ
shape_text (Runs runs) = short (length runs) ++ flat_map run_text runs
shape_text (Disc x y r) = short x ++ short y ++ short r

-- the byte that tells runs from discs. The first version has runs alone, and no such byte
abbrev pub kind_text : Version → Shape → List ℕ
kind_text First shape = []
kind_text Second (Runs runs) = 0 ∷ []
kind_text Second (Disc x y r) = 1 ∷ []

-- a stroke and its tag: tag, kind, level and shape
abbrev pub stroke_text : Version → ℕ × Seed → List ℕ
stroke_text version entry =
    tag_text entry.0 ++ kind_text version entry.1.shape ++ short entry.1.level ++ shape_text entry.1.shape

-- ---- frames

-- a frame: magic, connectivity, fingerprint, number of strokes, number of tombstones, strokes, tombstones
abbrev pub frame_of : Version → Conn → List ℕ → List (ℕ × Seed) → List ℕ → List ℕ
frame_of version conn print strokes tombstones =
    magic version ++ conn_byte conn ∷ [] ++ print ++ short (length strokes) ++ short (length tombstones)
    ++ flat_map (stroke_text version) strokes ++ flat_map tag_text tombstones

-- the frame of a state: its strokes and its tombstones, each rising by tag
unfoldable pub frame_text : Version → Conn → List ℕ → State → List ℕ
frame_text version conn print s = frame_of version conn print (strokes_of s) (tombstones_of s)

-- ---- what has a spelling

-- the most bytes that a frame has
abbrev pub max_bytes : ℕ
max_bytes = 1400

-- each of the run's numbers has two bytes
pub record RunFits (run : Run) : Type 0 where
  pub y : run.y < 2 ^ 16
  pub x0 : run.x0 < 2 ^ 16
  pub x1 : run.x1 < 2 ^ 16

-- the version has such shapes, and each coordinate has two bytes
abbrev pub ShapeFits : Version → Shape → Type 0
ShapeFits version (Runs runs) = AllByRecursion RunFits runs
ShapeFits First (Disc x y r) = ⊥
ShapeFits Second (Disc x y r) = (x < 2 ^ 16) × (y < 2 ^ 16)

-- a canonical stroke that the version has, under a tag of 16 bytes
pub record StrokeFits (version : Version) (entry : ℕ × Seed) : Type 0 where
  pub tag : entry.0 < 2 ^ 128
  pub canonical : IsCanonical entry.1
  pub shape : ShapeFits version entry.1.shape

-- the bytes spell the strokes and tombstones of the state, for the image of this fingerprint, with these
-- neighbours: they are its frame in one of the versions
pub record Spells (bytes : List ℕ) (conn : Conn) (print : List ℕ) (s : State) : Type 0 where
  pub version : Version
  pub text : bytes ≡ frame_text version conn print s
  pub within : length bytes ≤ max_bytes
  pub print_length : length print ≡ 32
  pub strokes : AllByRecursion (StrokeFits version) (strokes_of s)
  pub tombstones : AllByRecursion (λ tag. tag < 2 ^ 128) (tombstones_of s)

-- the bytes spell the frame
abbrev pub SpellsFrame : List ℕ → Frame → Type 0
SpellsFrame bytes f = Spells bytes f.conn f.print f.delta

-- the frame has a text in the version: one that is not too long, and has each of the strokes
pub record IsWritable (version : Version) (f : Frame) : Type 0 where
  pub within : length (frame_text version f.conn f.print f.delta) ≤ max_bytes
  pub print_length : length f.print ≡ 32
  pub strokes : AllByRecursion (StrokeFits version) (strokes_of f.delta)
  pub tombstones : AllByRecursion (λ tag. tag < 2 ^ 128) (tombstones_of f.delta)
