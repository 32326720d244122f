-- The lines that write strokes and withdrawals in the edit language, and what the lines of a state's live strokes mean.
use Rattle.std.specs.Prelude.{ℕ, ◌<◌, ◌≤◌, ◌^◌, List, [], ◌∷◌, ◌++◌, ◌↔◌, map, not, codes, decimal, flat_map}
use Rattle.std.specs.List.{AllByRecursion, join_by}
use Rattle.stroke_core.specs.{declared.run.Run.Run, Tag.text_of}
use Rattle.stroke_core.specs.Seed.{Seed, Shape, Runs, Disc, IsCanonical}
use Rattle.stroke_lattice.specs.State.{State, HasStroke, HasTombstone, IsLive, IsJoinOf, placed, withdrawn}
use Rattle.stroke_lattice.specs.Pieces.{Item, Placed, Withdrawn, strokes_of}
use Rattle.edit_lang.specs.{Lines.line_feed, Lines.blank, Numbers.max_coordinate, Edit.EditSpells}
use Rattle.edit_lang.specs.Shapes.{plus, comma, dash, colon}
use Rattle.std.specs.FinMap as finmap
use Rattle.std.specs.FinSet as set

-- ---- lines

-- a run, y:x0-x1: each number in decimal without leading zeros
abbrev pub run_text : Run → List ℕ
run_text run = decimal run.y ++ colon ∷ (decimal run.x0 ++ dash ∷ decimal run.x1)

-- runs with one comma between two, or a disc y:x+r
abbrev pub shape_text : Shape → List ℕ
shape_text (Runs runs) = join_by run_text (comma ∷ []) runs
shape_text (Disc x y r) = decimal y ++ colon ∷ (decimal x ++ plus ∷ decimal r)

-- the word for a placement of such a shape
abbrev pub verb_of : Shape → List ℕ
verb_of (Runs runs) = codes "place"
verb_of (Disc x y r) = codes "disc"

-- a line: words with one blank between two, and LF
abbrev pub line_text : List (List ℕ) → List ℕ
line_text words = join_by (λ word. word) (blank ∷ []) words ++ line_feed ∷ []

-- the seed of a level and the disc of radius r round the pixel (x, y)
abbrev pub disc_seed : ℕ → ℕ → ℕ → ℕ → Seed
disc_seed level x y r = record { level = level; shape = Disc x y r }

-- the words that place a stroke: the tag in its hyphenated form in lower case, the level and the shape
abbrev pub placement_words : ℕ → Seed → List (List ℕ)
placement_words tag seed = verb_of seed.shape ∷ text_of tag ∷ decimal seed.level ∷ shape_text seed.shape ∷ []

-- the line that places the stroke under the tag
unfoldable pub placement_text : ℕ → Seed → List ℕ
placement_text tag seed = line_text (placement_words tag seed)

-- the words that withdraw a tag
abbrev pub withdrawal_words : ℕ → List (List ℕ)
withdrawal_words tag = codes "withdraw" ∷ text_of tag ∷ []

-- the line that withdraws the tag
unfoldable pub withdrawal_text : ℕ → List ℕ
withdrawal_text tag = line_text (withdrawal_words tag)

-- the line of a stroke or of a withdrawal
abbrev pub item_text : Item → List ℕ
item_text (Placed tag seed) = placement_text tag seed
item_text (Withdrawn tag) = withdrawal_text tag

-- ---- the live strokes

-- the state of the live strokes alone
abbrev pub live_part : State → State
live_part s = record {
  strokes = finmap.retain_keys s.strokes (λ tag. not (set.contains s.tombstones tag));
  tombstones = set.empty;
}

-- the live strokes with their tags, rising by tag
abbrev pub live_of : State → List (ℕ × Seed)
live_of s = strokes_of (live_part s)

-- a line for each live stroke, rising by tag
abbrev pub live_text : State → List ℕ
live_text s = flat_map (λ entry. placement_text entry.0 entry.1) (live_of s)

-- ---- what is written can be read

-- each number of the run is a coordinate
pub record HasCoordinates (run : Run) : Type 0 where
  pub y : run.y ≤ max_coordinate
  pub x0 : run.x0 ≤ max_coordinate
  pub x1 : run.x1 ≤ max_coordinate

-- all runs, or the centre of the disc, have coordinates
abbrev pub ShapeHasCoordinates : Shape → Type 0
ShapeHasCoordinates (Runs runs) = AllByRecursion HasCoordinates runs
ShapeHasCoordinates (Disc x y r) = (x ≤ max_coordinate) × (y ≤ max_coordinate)

-- a canonical stroke with coordinates, under a tag of 128 bits: such are all that a program holds
pub record IsHeld (entry : ℕ × Seed) : Type 0 where
  pub tag : entry.0 < 2 ^ 128
  pub canonical : IsCanonical entry.1
  pub coordinates : ShapeHasCoordinates entry.1.shape

-- such a stroke, or the withdrawal of a tag of 128 bits
abbrev pub ItemIsHeld : Item → Type 0
ItemIsHeld (Placed tag seed) = IsHeld (tag, seed)
ItemIsHeld (Withdrawn tag) = tag < 2 ^ 128

-- the state of that stroke, or of that tombstone
abbrev pub delta_of : Item → State
delta_of (Placed tag seed) = placed tag seed
delta_of (Withdrawn tag) = withdrawn tag

-- each live stroke of the state is such a stroke
abbrev pub LiveAreHeld : State → Type 0
LiveAreHeld s = (tag : ℕ) (seed : Seed) → IsLive s tag seed → IsHeld (tag, seed)

-- the strokes of the first are the live strokes of the second, and it has no tombstone
pub record HasLiveAlone (part s : State) : Type 0 where
  pub strokes : (tag : ℕ) (seed : Seed) → HasStroke part tag seed ↔ IsLive s tag seed
  pub tombstones : (tag : ℕ) → HasTombstone part tag → ⊥

-- the text spells deltas, and their join has exactly the live strokes of the state
pub record SpellsLive (text : List ℕ) (s : State) : Type 0 where
  pub deltas : List State
  pub join : State
  pub spelled : EditSpells text deltas
  pub joined : IsJoinOf deltas join
  pub alone : HasLiveAlone join s

-- the line of such a stroke spells its placement alone
abbrev pub PlacementIsRead : Type 0
PlacementIsRead = (tag : ℕ) (seed : Seed) → IsHeld (tag, seed)
    → EditSpells (placement_text tag seed) (placed tag seed ∷ [])

-- the line of a withdrawal spells it alone
abbrev pub WithdrawalIsRead : Type 0
WithdrawalIsRead = (tag : ℕ) → tag < 2 ^ 128 → EditSpells (withdrawal_text tag) (withdrawn tag ∷ [])

-- the lines of strokes and withdrawals spell their states, in order
abbrev pub LinesAreRead : Type 0
LinesAreRead = (items : List Item) → AllByRecursion ItemIsHeld items
    → EditSpells (flat_map item_text items) (map delta_of items)

-- the lines of the live strokes spell what has them and nothing else
abbrev pub LiveIsRead : Type 0
LiveIsRead = (s : State) → LiveAreHeld s → SpellsLive (live_text s) s
