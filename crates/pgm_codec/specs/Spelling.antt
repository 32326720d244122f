-- The texts of PGM files (Netpbm pgm(5)), in this crate's profile: which text spells which image.
use Rattle.std.specs.Prelude.{◌≡◌, ℕ, ◌+◌, ◌*◌, ◌≤◌, ◌==◌, ◌||◌, nat_lt, Bool, IsTrue, true, false, List, [], ◌∷◌, ◌++◌}
use Rattle.std.specs.Prelude.{length, Option, Some, None, if◌then◌else◌, ◌⊎◌, codes}
use Rattle.std.specs.{List.AllByRecursion, List.concat, Char.is_ascii_digit, Str.Parse.IsNumeral}
use Rattle.std.specs.{Str.Parse.digits_value}
use Rattle.grid_core.specs.Raster.{max_side, max_pixels, max_level}
use Rattle.pgm_codec.specs.{declared.error.PgmError.PgmError, declared.grammar.Encoding.Encoding}
use Rattle.pgm_codec.specs.{declared.grammar.Encoding.TheVariants.Plain, declared.grammar.Encoding.TheVariants.Raw}
use Rattle.pgm_codec.specs.{declared.grammar.Section.Section, declared.grammar.Section.TheVariants.Header}
use Rattle.pgm_codec.specs.{declared.grammar.Section.TheVariants.Raster, Graymap.Graymap, Graymap.IsGraymap}
use Rattle.pgm_codec.specs.declared.error.PgmError.TheVariants.{ZeroSize, TooLarge, BadMaxval}

-- ---- bytes

-- CR
abbrev pub carriage_return : ℕ
carriage_return = 13

-- LF
abbrev pub line_feed : ℕ
line_feed = 10

-- the blank
abbrev pub blank : ℕ
blank = 32

-- TAB
abbrev pub tab : ℕ
tab = 9

-- CR and LF
abbrev pub is_line_end : ℕ → Bool
is_line_end b = (b == carriage_return) || (b == line_feed)

-- blank, TAB, CR and LF
abbrev pub is_white : ℕ → Bool
is_white b = (b == blank) || (b == tab) || is_line_end b

-- `#`
abbrev pub hash : ℕ
hash = 35

-- a comment begins with `#`, and stands in the header alone
abbrev pub opens_comment : Section → ℕ → Bool
opens_comment Header b = b == hash
opens_comment Raster b = false

-- ---- gaps

-- a comment that has no end yet: its first byte, and then any bytes but CR and LF
abbrev pub IsOpenComment : Section → List ℕ → Type 0
IsOpenComment place text =
    (b : ℕ) × (words : List ℕ) × IsTrue (opens_comment place b) × AllByRecursion (λ c. is_line_end c ≡ false) words
    × (text ≡ b ∷ words)

-- a comment: one CR or LF ends it
abbrev pub IsComment : Section → List ℕ → Type 0
IsComment place text = (begun : List ℕ) × (e : ℕ) × IsOpenComment place begun × IsTrue (is_line_end e)
    × (text ≡ begun ++ e ∷ [])

-- one whitespace byte
abbrev pub IsWhitespace : List ℕ → Type 0
IsWhitespace text = (b : ℕ) × IsTrue (is_white b) × (text ≡ b ∷ [])

-- whitespace and comments before a part, or none; comments stand in the header alone. A gap begins right
-- behind the part before it, and in the header behind the whitespace byte that ends that part
abbrev pub IsGap : Section → List ℕ → Type 0
IsGap place text =
    (pieces : List (List ℕ)) × AllByRecursion (λ piece. IsWhitespace piece ⊎ IsComment place piece) pieces
    × (text ≡ concat pieces)

-- ---- numbers

-- no digit stands first
abbrev pub StartsNoDigit : List ℕ → Type 0
StartsNoDigit [] = Unit {0}
StartsNoDigit (b ∷ rest) = is_ascii_digit b ≡ false

-- nothing follows, or whitespace does
abbrev pub StartsApart : List ℕ → Type 0
StartsApart [] = Unit {0}
StartsApart (b ∷ rest) = IsTrue (is_white b)

-- a text begins with a number: a gap, all its digits (leading zeros too), and then the rest
pub record StartsNumber (place : Section) (text digits rest : List ℕ) : Type 0 where
  pub gap : List ℕ
  pub is_gap : IsGap place gap
  pub numeral : IsNumeral 10 digits
  pub whole : StartsNoDigit rest
  pub parts : text ≡ gap ++ (digits ++ rest)

-- ---- the header

-- what is wrong with a width, if anything is
abbrev pub width_fault : ℕ → Option PgmError
width_fault n = if n == 0 then Some ZeroSize else (if nat_lt max_side n then Some TooLarge else None)

-- what is wrong with a height behind a width, if anything is
abbrev pub height_fault : ℕ → ℕ → Option PgmError
height_fault width n =
    if n == 0 then Some ZeroSize else (if nat_lt max_side n || nat_lt max_pixels (width * n) then Some TooLarge
    else None)

-- what is wrong with a maxval, if anything is
abbrev pub maxval_fault : ℕ → Option PgmError
maxval_fault n = if (n == 0) || nat_lt max_level n then Some BadMaxval else None

-- a text begins with a header number: a number, and the whitespace byte that ends it
abbrev pub StartsField : List ℕ → ℕ → List ℕ → Type 0
StartsField text n rest =
    (digits : List ℕ) × (b : ℕ) × StartsNumber Header text digits (b ∷ rest) × IsTrue (is_white b)
    × (n ≡ digits_value 10 digits)

-- a header number that was judged, and nothing is wrong with it
abbrev pub StartsGoodField : (ℕ → Option PgmError) → List ℕ → ℕ → List ℕ → Type 0
StartsGoodField fault text n rest = StartsField text n rest × (fault n ≡ None)

-- the magic of an encoding
abbrev pub magic : Encoding → List ℕ
magic Plain = codes "P2"
magic Raw = codes "P5"

-- a text begins with a magic and a whitespace byte
abbrev pub StartsMagic : List ℕ → Encoding → List ℕ → Type 0
StartsMagic text encoding rest = (b : ℕ) × (text ≡ magic encoding ++ b ∷ rest) × IsTrue (is_white b)

-- a text begins with a header: the magic, width, height and maxval, each number ended by one whitespace
-- byte, with gaps before them
pub record StartsHeader (text : List ℕ) (encoding : Encoding) (width height maxval : ℕ) (rest : List ℕ) : Type 0 where
  pub after_magic : List ℕ
  pub after_width : List ℕ
  pub after_height : List ℕ
  pub magic_bytes : StartsMagic text encoding after_magic
  pub width_field : StartsGoodField width_fault after_magic width after_width
  pub height_field : StartsGoodField (height_fault width) after_width height after_height
  pub maxval_field : StartsGoodField maxval_fault after_height maxval rest

-- ---- samples

-- a raw sample takes two bytes where maxval is above 255
abbrev pub is_wide : ℕ → Bool
is_wide maxval = nat_lt 255 maxval

-- a text begins with the bytes of a value: one, or two with the more significant first
abbrev pub StartsBytes : Bool → List ℕ → ℕ → List ℕ → Type 0
StartsBytes false text s rest = text ≡ s ∷ rest
StartsBytes true text s rest = (high low : ℕ) × (text ≡ high ∷ low ∷ rest) × (s ≡ high * 256 + low)

-- a text begins with the spelling of a value: a number with whitespace or the end behind it, or bytes
abbrev pub StartsValue : Encoding → ℕ → List ℕ → ℕ → List ℕ → Type 0
StartsValue Plain maxval text s rest =
    (digits : List ℕ) × StartsNumber Raster text digits rest × StartsApart rest × (s ≡ digits_value 10 digits)
StartsValue Raw maxval text s rest = StartsBytes (is_wide maxval) text s rest

-- a text begins with a sample: a value that is not above maxval
abbrev pub StartsSample : Encoding → ℕ → List ℕ → ℕ → List ℕ → Type 0
StartsSample encoding maxval text s rest = StartsValue encoding maxval text s rest × (s ≤ maxval)

-- a text begins with these samples
abbrev pub StartsSamples : Encoding → ℕ → List ℕ → List ℕ → List ℕ → Type 0
StartsSamples encoding maxval text [] rest = text ≡ rest
StartsSamples encoding maxval text (s ∷ samples) rest =
    (after : List ℕ) × StartsSample encoding maxval text s after × StartsSamples encoding maxval after samples rest

-- what may follow the last sample: whitespace behind a plain one, nothing behind a raw one
abbrev pub IsEnd : Encoding → List ℕ → Type 0
IsEnd Plain text = IsGap Raster text
IsEnd Raw text = text ≡ []

-- the text of an image, all of it: a header, width * height samples, and the end
pub record PgmSpells (text : List ℕ) (image : Graymap) : Type 0 where
  pub encoding : Encoding
  pub raster : List ℕ
  pub rest : List ℕ
  pub header : StartsHeader text encoding image.raster.width image.raster.height image.maxval raster
  pub samples : StartsSamples encoding image.maxval raster image.raster.cells rest
  pub count : length image.raster.cells ≡ image.raster.width * image.raster.height
  pub ended : IsEnd encoding rest

-- the text of each image spells that image and no other
pub record SpellsBack (text : Graymap → List ℕ) : Type 0 where
  pub spelled : (image : Graymap) → IsGraymap image → PgmSpells (text image) image
  pub only : (image other : Graymap) → IsGraymap image → PgmSpells (text image) other → other ≡ image
