-- The first fault of a text that spells no image: all that stands before it fits and was judged.
use Rattle.std.specs.Prelude.{◌≡◌, ℕ, ◌*◌, ◌<◌, ◌≤◌, Bool, true, false, List, [], ◌∷◌, ◌++◌, length, take, Option, Some}
use Rattle.std.specs.Prelude.{◌⊎◌}
use Rattle.std.specs.{Char.is_ascii_digit, Str.Parse.digits_value}
use Rattle.pgm_codec.specs.{declared.error.PgmError.PgmError, declared.grammar.Encoding.Encoding}
use Rattle.pgm_codec.specs.{declared.grammar.Section.Section, Graymap.Graymap}
use Rattle.pgm_codec.specs.declared.error.PgmError.TheVariants.{BadMagic, BadHeader, Truncated, SampleRange, BadSample}
use Rattle.pgm_codec.specs.declared.error.PgmError.TheVariants.{Trailing, Memory, Device}
use Rattle.pgm_codec.specs.declared.grammar.Encoding.TheVariants.{Plain, Raw}
use Rattle.pgm_codec.specs.declared.grammar.Section.TheVariants.{Header, Raster}
use Rattle.pgm_codec.specs.Spelling.{is_white, opens_comment, IsOpenComment, IsGap, StartsNumber, StartsField}
use Rattle.pgm_codec.specs.Spelling.{StartsGoodField, magic, StartsMagic, StartsHeader, is_wide, StartsBytes}
use Rattle.pgm_codec.specs.Spelling.{StartsSamples, width_fault, height_fault, maxval_fault, PgmSpells}

-- nothing but a gap stands there, or a gap and a comment that the end cuts off
abbrev pub EndsInGap : Section → List ℕ → Type 0
EndsInGap place text =
    IsGap place text ⊎ ((gap begun : List ℕ) × IsGap place gap × IsOpenComment place begun × (text ≡ gap ++ begun))

-- behind a gap stands another byte: no whitespace, and none that begins a comment
abbrev pub StartsOther : Section → List ℕ → ℕ → Type 0
StartsOther place text b =
    (gap rest : List ℕ) × IsGap place gap × (is_white b ≡ false) × (opens_comment place b ≡ false)
    × (text ≡ gap ++ b ∷ rest)

-- behind a gap stands another byte that is no digit
abbrev pub StartsStray : Section → List ℕ → Type 0
StartsStray place text = (b : ℕ) × StartsOther place text b × (is_ascii_digit b ≡ false)

-- the first two bytes, or the byte behind them
abbrev pub MagicFault : List ℕ → PgmError → Type 0
MagicFault text BadMagic = (encoding : Encoding) → take 2 text ≡ magic encoding → ⊥
MagicFault text Truncated = (encoding : Encoding) × (text ≡ magic encoding)
MagicFault text BadHeader =
    (encoding : Encoding) × (b : ℕ) × (rest : List ℕ) × (text ≡ magic encoding ++ b ∷ rest) × (is_white b ≡ false)
MagicFault text _ = ⊥

-- the spelling of a header number that should stand first: the text ends before the byte that ends the
-- number, or a byte fits no part in its place
abbrev pub FieldFault : List ℕ → PgmError → Type 0
FieldFault text Truncated =
    EndsInGap Header text ⊎ ((digits : List ℕ) × StartsNumber Header text digits [])
FieldFault text BadHeader =
    StartsStray Header text
    ⊎ ((digits rest : List ℕ) × (b : ℕ) × StartsNumber Header text digits (b ∷ rest) × (is_white b ≡ false))
FieldFault text _ = ⊥

-- a header number that should stand first: its spelling, or else its value
abbrev pub GoodFieldFault : (ℕ → Option PgmError) → List ℕ → PgmError → Type 0
GoodFieldFault fault text code =
    FieldFault text code ⊎ ((n : ℕ) × (rest : List ℕ) × StartsField text n rest × (fault n ≡ Some code))

-- fewer bytes than one raw sample has
abbrev pub IsShort : Bool → List ℕ → Type 0
IsShort false text = text ≡ []
IsShort true text = length text < 2

-- a plain sample that should stand first: the text ends before it, its value is too great, or a byte that
-- is neither digit nor whitespace stands before it or right behind its digits. A raw one: the text ends
-- before it is whole, or its value is too great
abbrev pub SampleFault : Encoding → ℕ → List ℕ → PgmError → Type 0
SampleFault Plain maxval text Truncated = EndsInGap Raster text
SampleFault Plain maxval text SampleRange =
    (digits rest : List ℕ) × StartsNumber Raster text digits rest × (maxval < digits_value 10 digits)
SampleFault Plain maxval text BadSample =
    StartsStray Raster text
    ⊎ ((digits rest : List ℕ) × (b : ℕ) × StartsNumber Raster text digits (b ∷ rest)
    × (digits_value 10 digits ≤ maxval) × (is_white b ≡ false))
SampleFault Raw maxval text Truncated = IsShort (is_wide maxval) text
SampleFault Raw maxval text SampleRange =
    (s : ℕ) × (rest : List ℕ) × StartsBytes (is_wide maxval) text s rest × (maxval < s)
SampleFault _ maxval text _ = ⊥

-- behind the last sample, and behind whitespace where the raster is plain, stands another byte
abbrev pub EndFault : Encoding → List ℕ → PgmError → Type 0
EndFault Plain text Trailing = (b : ℕ) × StartsOther Raster text b
EndFault Raw text Trailing = (b : ℕ) × (rest : List ℕ) × (text ≡ b ∷ rest)
EndFault _ text _ = ⊥

-- a raster of so many samples: some of them stand there, and the next is faulty, or all, and the end is
abbrev pub RasterFault : Encoding → ℕ → ℕ → List ℕ → PgmError → Type 0
RasterFault encoding maxval count text code =
    (samples rest : List ℕ) × StartsSamples encoding maxval text samples rest
    × (((length samples < count) × SampleFault encoding maxval rest code)
    ⊎ ((length samples ≡ count) × EndFault encoding rest code))

-- the fault of a text: in the magic, in width, height or maxval behind what stands before it, or in the
-- raster behind a header
pub data PgmFault (text : List ℕ) (code : PgmError) : Type 0 where
  in_magic : MagicFault text code → PgmFault text code
  in_width : (k : Encoding) (a : List ℕ) → StartsMagic text k a → GoodFieldFault width_fault a code → PgmFault text code
  in_height : (k : Encoding) (a b : List ℕ) (w : ℕ) → StartsMagic text k a → StartsGoodField width_fault a w b
      → GoodFieldFault (height_fault w) b code → PgmFault text code
  in_maxval : (k : Encoding) (a b c : List ℕ) (w h : ℕ) → StartsMagic text k a → StartsGoodField width_fault a w b
      → StartsGoodField (height_fault w) b h c → GoodFieldFault maxval_fault c code → PgmFault text code
  in_raster : (k : Encoding) (rest : List ℕ) (w h m : ℕ) → StartsHeader text k w h m rest
      → RasterFault k m (w * h) rest code → PgmFault text code

-- a text has at most one fault, the first, and none where it spells an image. Want of memory and a device's failure are
-- no faults of a text
pub record TextsHaveOneFault : Type 0 where
  pub memory : (text : List ℕ) → PgmFault text Memory → ⊥
  pub device : (text : List ℕ) → PgmFault text Device → ⊥
  pub first : (text : List ℕ) (a b : PgmError) → PgmFault text a → PgmFault text b → a ≡ b
  pub none : (text : List ℕ) (image : Graymap) (e : PgmError) → PgmSpells text image → PgmFault text e → ⊥
