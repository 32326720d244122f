-- What an edit text means: a state for each of its edits, or the fault of its first faulty line.
use Rattle.std.specs.Prelude.{◌≡◌, ℕ, ◌+◌, List, [], ◌∷◌, ◌++◌, ◌⊎◌, if◌then◌else◌, codes, nat_eq, Option, Some, None}
use Rattle.std.specs.Prelude.{option_to_list, Result, Ok, Err, MatchResult, bytes_eq}
use Rattle.std.specs.List.{starts_with}
use Rattle.stroke_core.specs.Seed.{Seed, Runs, Disc, IsCanonical, IsRefusal}
use Rattle.stroke_core.specs.{declared.run.Run.Run, Tag.tag_of, declared.error.StrokeError.StrokeError}
use Rattle.stroke_lattice.specs.State.{State, placed, withdrawn}
use Rattle.edit_lang.specs.{declared.error.EditError.EditError, Lines.lines_of, Lines.words_of, Numbers.number_of}
use Rattle.edit_lang.specs.{Numbers.◌>>=◌, Shapes.runs_of, Shapes.disc_of}
use Rattle.edit_lang.specs.declared.error.EditError.TheVariants.{BadLine, BadTag, BadStroke, Memory}

-- what a line asks for: nothing, a seed to be placed under a tag, or a tag to be withdrawn; the tag is a word,
-- not read yet
pub data Edit : Type 0 where
  Nothing : Edit
  Place : (tag : List ℕ) (seed : Seed) → Edit
  Withdraw : (tag : List ℕ) → Edit

-- the three words behind the first, where there are three
unfoldable pub three_of : List (List ℕ) → Option (List ℕ × List ℕ × List ℕ)
three_of (tag ∷ level ∷ shape ∷ []) = Some (tag, level, shape)
three_of _ = None

-- to place these runs at this level under a tag
abbrev pub runs_placement : List ℕ → ℕ → List Run → Edit
runs_placement tag level runs = Place tag (record { level = level; shape = Runs runs })

-- to place the disc round this pixel at this level under a tag
abbrev pub disc_placement : List ℕ → ℕ → ℕ → ℕ → ℕ → Edit
disc_placement tag level x y r = Place tag (record { level = level; shape = Disc x y r })

-- TAG LEVEL RUNS
unfoldable pub runs_edit : List (List ℕ) → Option Edit
runs_edit words = do
  (tag, level, runs) ← three_of words
  number ← number_of level
  rows ← runs_of runs
  Some (runs_placement tag number rows)

-- TAG LEVEL DISC
unfoldable pub disc_edit : List (List ℕ) → Option Edit
disc_edit words = do
  (tag, level, disc) ← three_of words
  number ← number_of level
  shape ← disc_of disc
  Some (Place tag (record { level = number; shape = shape }))

-- TAG
unfoldable pub withdrawal : List (List ℕ) → Option Edit
withdrawal (tag ∷ []) = Some (Withdraw tag)
withdrawal _ = None

-- what a first word asks for with the words behind it, or None where they have no form of the language
unfoldable pub edit_named : List ℕ → List (List ℕ) → Option Edit
edit_named first others =
    if bytes_eq first (codes "place") then runs_edit others
    else (if bytes_eq first (codes "disc") then disc_edit others
    else (if bytes_eq first (codes "withdraw") then withdrawal others
    else None))

-- what the words of a line ask for: nothing where there are none, and where the first begins a comment
unfoldable pub edit_of : List (List ℕ) → Option Edit
edit_of [] = Some Nothing
edit_of (first ∷ others) = if starts_with nat_eq first (codes ";") then Some Nothing else edit_named first others

-- a seed on line n means a state that holds it where it is canonical, and else the fault E3 with the reason
abbrev pub SeedMeans : ℕ → ℕ → Seed → Result (Option State) EditError → Type 0
SeedMeans n tag seed r =
    (IsCanonical seed × (r ≡ Ok (Some (placed tag seed))))
    ⊎ ((why : StrokeError) × IsRefusal seed why × (r ≡ Err (BadStroke n why)))

-- a seed on line n, under the tag that was read, or under a word that is no tag
abbrev pub PlaceMeans : ℕ → Option ℕ → Seed → Result (Option State) EditError → Type 0
PlaceMeans n None seed r = r ≡ Err (BadTag n)
PlaceMeans n (Some tag) seed r = SeedMeans n tag seed r

-- a withdrawal on line n, of the tag that was read, or of a word that is no tag
abbrev pub WithdrawMeans : ℕ → Option ℕ → Result (Option State) EditError → Type 0
WithdrawMeans n None r = r ≡ Err (BadTag n)
WithdrawMeans n (Some tag) r = r ≡ Ok (Some (withdrawn tag))

-- what an edit on line n means: nothing, a state, or the fault of the line
abbrev pub EditMeans : ℕ → Option Edit → Result (Option State) EditError → Type 0
EditMeans n None r = r ≡ Err (BadLine n)
EditMeans n (Some Nothing) r = r ≡ Ok None
EditMeans n (Some (Place tag seed)) r = PlaceMeans n (tag_of tag) seed r
EditMeans n (Some (Withdraw tag)) r = WithdrawMeans n (tag_of tag) r

-- the answer to an edit on line n: the state that it means, or its fault, or that memory ran out
abbrev pub AnswersEdit : ℕ → Option Edit → Result State EditError → Type 0
AnswersEdit n edit r =
    MatchResult r (λ delta. EditMeans n edit (Ok (Some delta))) (λ e. (e ≡ Memory) ⊎ EditMeans n edit (Err e))

-- what line n means
abbrev pub LineMeans : ℕ → List ℕ → Result (Option State) EditError → Type 0
LineMeans n line r = EditMeans n (edit_of (words_of line)) r

-- the answer to line n: what it means, or its fault, or that memory ran out
abbrev pub AnswersLine : ℕ → List ℕ → Result (Option State) EditError → Type 0
AnswersLine n line r =
    MatchResult r (λ found. LineMeans n line (Ok found)) (λ e. (e ≡ Memory) ⊎ LineMeans n line (Err e))

-- the lines from number n on mean these states, in order, or the fault of the first faulty one
abbrev pub LinesMean : ℕ → List (List ℕ) → Result (List State) EditError → Type 0
LinesMean n [] r = r ≡ Ok []
LinesMean n (line ∷ lines) (Ok deltas) =
    (first : Option State) × (others : List State) × LineMeans n line (Ok first) × LinesMean (n + 1) lines (Ok others)
    × (deltas ≡ option_to_list first ++ others)
LinesMean n (line ∷ lines) (Err e) =
    LineMeans n line (Err e) ⊎ ((first : Option State) × LineMeans n line (Ok first) × LinesMean (n + 1) lines (Err e))

-- the lines of the text mean these states, in order
abbrev pub EditSpells : List ℕ → List State → Type 0
EditSpells text deltas = LinesMean 1 (lines_of text) (Ok deltas)

-- the fault of the first line that has one
abbrev pub IsFirstFault : List ℕ → EditError → Type 0
IsFirstFault text e = LinesMean 1 (lines_of text) (Err e)

-- each text spells one list of states or has one first fault, and not both
pub record OneMeaning : Type 0 where
  pub one_list : (text : List ℕ) (a b : List State) → EditSpells text a → EditSpells text b → a ≡ b
  pub no_fault : (text : List ℕ) (deltas : List State) (e : EditError) → EditSpells text deltas → IsFirstFault text e
      → ⊥
  pub one_fault : (text : List ℕ) (d e : EditError) → IsFirstFault text d → IsFirstFault text e → d ≡ e
  pub every_text : (text : List ℕ)
      → ((deltas : List State) × EditSpells text deltas) ⊎ ((e : EditError) × IsFirstFault text e)
