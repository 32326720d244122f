-- The plain file of an image (Netpbm, pgm(5)), by its lines.
use Rattle.std.specs.Prelude.{ℕ, zero, suc, ◌+◌, ◌/◌, ◌%◌, List, [], ◌∷◌, ◌++◌, length, take, drop, decimal, nat_lt}
use Rattle.std.specs.Prelude.{if◌then◌else◌, flat_map}
use Rattle.std.specs.List.{join_by}
use Rattle.pgm_codec.specs.{declared.grammar.Encoding.TheVariants.Plain, Graymap.Graymap, Writing.file_header}
use Rattle.pgm_codec.specs.Spelling.{line_feed, blank}

-- the last digit of a number, and nothing for 0
abbrev pub last_digit : ℕ → List ℕ
last_digit n = if nat_lt 0 n then (48 + n % 10) ∷ [] else []

-- a list cut from its front into so many parts of this size; the last may be shorter
abbrev pub parts : ℕ → ℕ → List ℕ → List (List ℕ)
parts size zero xs = []
parts size (suc count) xs = take size xs ∷ parts size count (drop size xs)

-- the most samples on a line, so that it has at most 65 characters
abbrev pub line_samples : ℕ
line_samples = 11

-- how many lines a row of so many samples takes
abbrev pub lines_of : ℕ → ℕ
lines_of width = (width + 10) / line_samples

-- a line: samples in decimal without leading zeros, one blank between two, and LF
abbrev pub plain_line : List ℕ → List ℕ
plain_line samples = join_by decimal (blank ∷ []) samples ++ line_feed ∷ []

-- a row: lines of 11 samples, the last of what is left
abbrev pub plain_row : List ℕ → List ℕ
plain_row row = flat_map plain_line (parts line_samples (lines_of (length row)) row)

-- the header, and then the rows from the top
unfoldable pub plain_text : Graymap → List ℕ
plain_text g = file_header Plain g ++ flat_map plain_row (parts g.raster.width g.raster.height g.raster.cells)
