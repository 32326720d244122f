-- Reading from left to right, with the first fault that is met. The contracts of private functions alone
-- say this; public ones say what a text spells (Spelling) and its first fault (FirstFault).
use Rattle.std.specs.Prelude.{◌≡◌, ℕ, zero, suc, ◌+◌, ◌*◌, Bool, true, false, List, slice_index, [], ◌∷◌, Option, Some}
use Rattle.std.specs.Prelude.{None, Result, Ok, Err, nat_lt, min, ◌==◌, if◌then◌else◌, ◌⊎◌, ◌<◌, ◌≤◌, length, All}
use Rattle.std.specs.Char.{is_ascii_digit, digit_value}
use Rattle.pgm_codec.specs.{declared.error.PgmError.PgmError, Graymap.Graymap, declared.grammar.Encoding.Encoding}
use Rattle.pgm_codec.specs.{declared.grammar.Section.Section}
use Rattle.pgm_codec.specs.declared.grammar.Encoding.TheVariants.{Plain, Raw}
use Rattle.pgm_codec.specs.declared.grammar.Section.TheVariants.{Header, Raster}
use Rattle.pgm_codec.specs.Spelling.{is_white, is_line_end, opens_comment, is_wide, width_fault, height_fault}
use Rattle.pgm_codec.specs.Spelling.{maxval_fault}
use Rattle.pgm_codec.specs.declared.error.PgmError.TheVariants as errors

infixl 10 ◌>>=◌
abbrev pub ◌>>=◌ : {A B : Type 0} → Result A PgmError → (A → Result B PgmError) → Result B PgmError
(Ok x) >>= f = f x
(Err e) >>= f = Err e

-- what a call answered, seen by view, is what reading gives
abbrev pub Gives : {X Y : Type 0} → (X → Y) → Result X PgmError → Result Y PgmError → Type 0
Gives view (Ok x) read = read ≡ Ok (view x)
Gives view (Err e) read = read ≡ Err e

-- the same, unless memory ran out
abbrev pub GivesOrMemory : {X Y : Type 0} → (X → Y) → Result X PgmError → Result Y PgmError → Type 0
GivesOrMemory view (Ok x) read = read ≡ Ok (view x)
GivesOrMemory view (Err e) read = (e ≡ errors.Memory) ⊎ (read ≡ Err e)

-- the text behind its leading gap, begun inside a comment or not
unfoldable pub after_gap : Section → Bool → List ℕ → List ℕ
after_gap place inside [] = []
after_gap place true (b ∷ rest) = if is_line_end b then after_gap place false rest else after_gap place true rest
after_gap place false (b ∷ rest) =
    if is_white b then after_gap place false rest
    else (if opens_comment place b then after_gap place true rest else b ∷ rest)

-- each greater number is read as this one, past every side, maxval and sample that may stand in a file
abbrev pub too_great : ℕ
too_great = 65536

-- the number that the leading digits write behind those of n, and the text behind them
unfoldable pub digits_after : ℕ → List ℕ → ℕ × List ℕ
digits_after n [] = (n, [])
digits_after n (b ∷ rest) =
    if is_ascii_digit b then digits_after (min (n * 10 + digit_value b) too_great) rest else (n, b ∷ rest)

-- a number stands first: its value and the text behind it. The faults are those of a text that ends, and
-- of one that begins otherwise
unfoldable pub number_at : PgmError → List ℕ → Result (ℕ × List ℕ) PgmError
number_at stray [] = Err errors.Truncated
number_at stray (b ∷ rest) = if is_ascii_digit b then Ok (digits_after 0 (b ∷ rest)) else Err stray

-- the byte that ends the header number n
unfoldable pub field_end : ℕ × List ℕ → Result (ℕ × List ℕ) PgmError
field_end (n, []) = Err errors.Truncated
field_end (n, b ∷ rest) = if is_white b then Ok (n, rest) else Err errors.BadHeader

-- a header number and its last byte stand first
unfoldable pub field_at : List ℕ → Result (ℕ × List ℕ) PgmError
field_at text = number_at errors.BadHeader (after_gap Header false text) >>= field_end

-- a number, if nothing is wrong with it
abbrev pub judged : Option PgmError → ℕ × List ℕ → Result (ℕ × List ℕ) PgmError
judged None x = Ok x
judged (Some e) x = Err e

-- a header number that is judged stands first
unfoldable pub good_field_at : (ℕ → Option PgmError) → List ℕ → Result (ℕ × List ℕ) PgmError
good_field_at fault text = field_at text >>= λ x. judged (fault x.0) x

-- behind the digits of a sample
unfoldable pub sample_end : ℕ × List ℕ → Result (ℕ × List ℕ) PgmError
sample_end (n, []) = Ok (n, [])
sample_end (n, b ∷ rest) = if is_white b then Ok (n, b ∷ rest) else Err errors.BadSample

-- a sample of one byte stands first, or one of two
unfoldable pub bytes_at : Bool → List ℕ → Result (ℕ × List ℕ) PgmError
bytes_at false (b ∷ rest) = Ok (b, rest)
bytes_at true (high ∷ low ∷ rest) = Ok (high * 256 + low, rest)
bytes_at _ _ = Err errors.Truncated

-- how many bytes a raw sample has
abbrev pub sample_width : Bool → ℕ
sample_width false = 1
sample_width true = 2

-- the raw value of this number, counted from 0
abbrev pub raw_value : Bool → List ℕ → ℕ → ℕ
raw_value false text k = slice_index text k
raw_value true text k = slice_index text (k * 2) * 256 + slice_index text (k * 2 + 1)

-- the first raw values of a text, so many
pub record AreRawValues (wide : Bool) (count : ℕ) (text samples : List ℕ) : Type 0 where
  pub length : length samples ≡ count
  pub values : (k : ℕ) → k < count → slice_index samples k ≡ raw_value wide text k

-- so many samples within maxval
pub record AreSamples (maxval count : ℕ) (samples : List ℕ) : Type 0 where
  pub length : length samples ≡ count
  pub range : All (λ s. s ≤ maxval) samples

-- a value within maxval, and what is behind it
abbrev pub within : ℕ → (ℕ × List ℕ → Result (ℕ × List ℕ) PgmError) → ℕ × List ℕ → Result (ℕ × List ℕ) PgmError
within maxval go x = if nat_lt maxval x.0 then Err errors.SampleRange else go x

-- a sample stands first
unfoldable pub sample_at : Encoding → ℕ → List ℕ → Result (ℕ × List ℕ) PgmError
sample_at Plain maxval text = number_at errors.BadSample (after_gap Raster false text) >>= within maxval sample_end
sample_at Raw maxval text = bytes_at (is_wide maxval) text >>= within maxval Ok

-- so many samples stand first
unfoldable pub samples_at : Encoding → ℕ → ℕ → List ℕ → Result (List ℕ × List ℕ) PgmError
samples_at encoding maxval zero text = Ok ([], text)
samples_at encoding maxval (suc count) text =
    sample_at encoding maxval text >>= λ s. samples_at encoding maxval count s.1 >>= λ x. Ok (s.0 ∷ x.0, x.1)

-- nothing is left
unfoldable pub nothing_at : List ℕ → Result (Unit {0}) PgmError
nothing_at [] = Ok tt
nothing_at (b ∷ rest) = Err errors.Trailing

-- nothing but what may follow the last sample is left
unfoldable pub end_at : Encoding → List ℕ → Result (Unit {0}) PgmError
end_at Plain text = nothing_at (after_gap Raster false text)
end_at Raw text = nothing_at text

-- the whitespace byte behind the magic
unfoldable pub magic_end : Encoding → List ℕ → Result (Encoding × List ℕ) PgmError
magic_end encoding [] = Err errors.Truncated
magic_end encoding (b ∷ rest) = if is_white b then Ok (encoding, rest) else Err errors.BadHeader

-- `P`
abbrev pub letter_p : ℕ
letter_p = 80

-- `2`
abbrev pub digit_two : ℕ
digit_two = 50

-- `5`
abbrev pub digit_five : ℕ
digit_five = 53

-- a magic and its whitespace byte stand first
unfoldable pub magic_at : List ℕ → Result (Encoding × List ℕ) PgmError
magic_at [] = Err errors.BadMagic
magic_at (a ∷ []) = Err errors.BadMagic
magic_at (a ∷ b ∷ rest) =
    if a == letter_p then
    (if b == digit_two then magic_end Plain rest else (if b == digit_five then magic_end Raw rest else Err
    errors.BadMagic))
    else Err errors.BadMagic

-- a raster is left
unfoldable pub raster_at : Encoding → ℕ → ℕ → ℕ → List ℕ → Result Graymap PgmError
raster_at encoding w h m text =
    samples_at encoding m (w * h) text >>= λ s. end_at encoding s.1
    >>= λ _. Ok (record { raster = record { width = w; height = h; cells = s.0 }; maxval = m })

-- an image is all of the text
unfoldable pub image_at : List ℕ → Result Graymap PgmError
image_at text = magic_at text >>= λ a. good_field_at width_fault a.1 >>= λ w. good_field_at (height_fault w.0) w.1
    >>= λ h. good_field_at maxval_fault h.1 >>= λ m. raster_at a.0 w.0 h.0 m.0 m.1
