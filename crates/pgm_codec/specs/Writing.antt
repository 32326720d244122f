-- The raw file of an image (Netpbm pgm(5)).
use Rattle.std.specs.Prelude.{ℕ, ◌/◌, ◌%◌, nat_lt, List, [], ◌∷◌, ◌++◌, decimal, if◌then◌else◌, flat_map}
use Rattle.pgm_codec.specs.{declared.grammar.Encoding.Encoding, declared.grammar.Encoding.TheVariants.Raw}
use Rattle.pgm_codec.specs.{Graymap.Graymap, Spelling.line_feed, Spelling.blank, Spelling.magic}

-- one byte a sample where maxval is below 256, else two, the more significant first
abbrev pub sample_bytes : ℕ → ℕ → List ℕ
sample_bytes maxval s = if nat_lt maxval 256 then s ∷ [] else s / 256 ∷ s % 256 ∷ []

-- how many bytes that is
abbrev pub sample_len : ℕ → ℕ
sample_len maxval = if nat_lt maxval 256 then 1 else 2

-- the magic, LF, width, blank, height, LF, maxval, LF, in decimal without leading zeros
abbrev pub file_header : Encoding → Graymap → List ℕ
file_header encoding g =
    magic encoding ++ line_feed
    ∷ (decimal g.raster.width ++ blank
    ∷ (decimal g.raster.height ++ line_feed ∷ (decimal g.maxval ++ line_feed ∷ [])))

-- the header of a raw file: its magic is `P5`
abbrev pub raw_header : Graymap → List ℕ
raw_header g = file_header Raw g

-- the header, and then the samples row by row from the top
unfoldable pub raw_text : Graymap → List ℕ
raw_text g = raw_header g ++ flat_map (sample_bytes g.maxval) g.raster.cells
