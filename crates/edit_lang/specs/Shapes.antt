-- The runs and the disc that a word writes.
use Rattle.std.specs.Prelude.{ℕ, List, [], ◌∷◌, ◌==◌, Option, Some}
use Rattle.std.specs.List.{slice_split}
use Rattle.stroke_core.specs.{declared.run.Run.Run, Seed.Shape, Seed.Disc}
use Rattle.edit_lang.specs.{Lines.cut_at, Numbers.◌>>=◌, Numbers.coordinate_of}

-- the byte of a plus sign
abbrev pub plus : ℕ
plus = 43

-- the byte of a comma
abbrev pub comma : ℕ
comma = 44

-- the byte of a dash
abbrev pub dash : ℕ
dash = 45

-- the byte of a colon
abbrev pub colon : ℕ
colon = 58

-- the run of a row and two columns
unfoldable pub run_between : List ℕ → List ℕ → List ℕ → Option Run
run_between row first last = do
  y ← coordinate_of row
  x0 ← coordinate_of first
  x1 ← coordinate_of last
  Some (record { y = y; x0 = x0; x1 = x1 })

-- the run y:x0-x1
unfoldable pub run_of : List ℕ → Option Run
run_of word = do
  (row, columns) ← cut_at colon word
  (first, last) ← cut_at dash columns
  run_between row first last

-- the runs that the pieces write, each one
abbrev pub each_run : List (List ℕ) → Option (List Run)
each_run [] = Some []
each_run (piece ∷ pieces) = do
  first ← run_of piece
  others ← each_run pieces
  Some (first ∷ others)

-- one or more runs, with one comma between two
unfoldable pub runs_of : List ℕ → Option (List Run)
runs_of word = each_run (slice_split (λ b. b == comma) word)

-- the disc of a row, a column and a radius
unfoldable pub disc_round : List ℕ → List ℕ → List ℕ → Option Shape
disc_round row column radius = do
  y ← coordinate_of row
  x ← coordinate_of column
  r ← coordinate_of radius
  Some (Disc x y r)

-- the disc y:x+r
unfoldable pub disc_of : List ℕ → Option Shape
disc_of word = do
  (row, others) ← cut_at colon word
  (column, radius) ← cut_at plus others
  disc_round row column radius
