-- A header number and a sample: what reading finds is what stands there.
use Rattle.std.proofs.Common.{◌≡◌, ℕ, ◌+◌, ◌*◌, ◌<◌, ◌≤◌, min, Bool, true, false, ◌⊎◌, List, [], ◌∷◌, Option, Some}
use Rattle.std.proofs.Common.{None, Result, Ok, Err, refl, sym, ap, subst, ◌∙◌, arith, inl, inr, nat_lt}
use Rattle.std.proofs.lemmas.Bool.{cond-true, cond-false, cases_Bool, cases_lt, lt-ltb, le-ltb}
use Rattle.std.specs.Str.Parse.{digits_value}
use Rattle.grid_core.specs.Raster.{max_level}
use Rattle.pgm_codec.specs.{declared.error.PgmError.PgmError, declared.grammar.Encoding.Encoding}
use Rattle.pgm_codec.specs.declared.error.PgmError.TheVariants.{BadHeader, Truncated, SampleRange, BadSample}
use Rattle.pgm_codec.specs.declared.grammar.Encoding.TheVariants.{Plain, Raw}
use Rattle.pgm_codec.specs.declared.grammar.Section.TheVariants.{Header, Raster}
use Rattle.pgm_codec.specs.Spelling.{is_white, is_wide, StartsApart, StartsNumber, StartsBytes, StartsField}
use Rattle.pgm_codec.specs.Spelling.{StartsGoodField, StartsSample, width_fault, height_fault, maxval_fault}
use Rattle.pgm_codec.specs.FirstFault.{FieldFault, GoodFieldFault, IsShort, SampleFault}
use Rattle.pgm_codec.specs.Reading.{◌>>=◌, field_end, field_at, judged, good_field_at, sample_end, bytes_at, within}
use Rattle.pgm_codec.specs.Reading.{sample_at, too_great}
use Rattle.pgm_codec.proofs.Decimals.{number_read, stray_read, gap_read, NumberCases, number_cases}

-- a number and the text behind it, or a fault
abbrev pub Found : Type 0
Found = Result (ℕ × List ℕ) PgmError

-- a number that was read
abbrev pub found : ℕ → List ℕ → Found
found n rest = Ok (n, rest)

-- a fault that was met
abbrev pub failed : PgmError → Found
failed e = Err e

-- ---- header numbers

field_number : (text digits rest : List ℕ) → StartsNumber Header text digits rest
    → field_at text ≡ field_end (min (digits_value 10 digits) too_great, rest)
unfolding field_at
field_number text digits rest h = ap (λ (r : Found). r >>= field_end) (number_read Header BadHeader text digits rest h)

-- a header number that stands there is read
pub field_read : (text : List ℕ) (n : ℕ) (rest : List ℕ) → StartsField text n rest
    → field_at text ≡ found (min n too_great) rest
unfolding field_end
field_read text n rest (digits, b, h, w, e) =
    field_number text digits (b ∷ rest) h ∙ cond-true (is_white b) _ _ w
    ∙ ap (λ (k : ℕ). found (min k too_great) rest) (sym e)

-- a fault of its spelling is answered
pub field_fault_read : (text : List ℕ) (e : PgmError) → FieldFault text e → field_at text ≡ failed e
unfolding field_at field_end
field_fault_read text Truncated (inl h) = ap (λ (r : Found). r >>= field_end) (gap_read Header BadHeader text h)
field_fault_read text Truncated (inr (digits, h)) = field_number text digits [] h
field_fault_read text BadHeader (inl h) = ap (λ (r : Found). r >>= field_end) (stray_read Header BadHeader text h)
field_fault_read text BadHeader (inr (digits, rest, b, h, w)) =
    field_number text digits (b ∷ rest) h ∙ cond-false (is_white b) _ _ w
field_fault_read text _ h = absurd h

-- what reading finds is there
abbrev pub IsField : List ℕ → Found → Type 0
IsField text (Ok x) = (n : ℕ) × StartsField text n x.1 × (x.0 ≡ min n too_great)
IsField text (Err e) = FieldFault text e

field_fails : (text : List ℕ) (e : PgmError) → FieldFault text e → IsField text (field_at text)
field_fails text e h = subst (IsField text) (sym (field_fault_read text e h)) h

field_behind : (text digits rest : List ℕ) → StartsNumber Header text digits rest → IsField text (field_at text)
field_behind text digits [] h = field_fails text Truncated (inr (digits, h))
field_behind text digits (b ∷ rest) h =
    let n = digits_value 10 digits in
    elim (cases_Bool (is_white b)) [
      | inl w ↦ subst (IsField text) (sym (field_read text n rest (digits, b, h, w, refl)))
          (n, (digits, b, h, w, refl), refl)
      | inr w ↦ field_fails text BadHeader (inr (digits, rest, b, h, w))
    ]

field_from : (text : List ℕ) → NumberCases Header text → IsField text (field_at text)
field_from text (inl h) = field_fails text Truncated (inl h)
field_from text (inr (inl h)) = field_fails text BadHeader (inl h)
field_from text (inr (inr (digits, rest, h))) = field_behind text digits rest h

-- what reading a header number says is so
pub field_found : (text : List ℕ) → IsField text (field_at text)
field_found text = field_from text (number_cases Header text)

-- ---- judged header numbers

-- numbers past max_level are all judged alike, and badly
pub record IsCapped (fault : ℕ → Option PgmError) : Type 0 where
  pub same : (n : ℕ) → fault (min n too_great) ≡ fault n
  pub small : (n : ℕ) → fault n ≡ None → n ≤ max_level

module _ (fault : ℕ → Option PgmError) (capped : IsCapped fault) where
  good_value : (text : List ℕ) (n : ℕ) (rest : List ℕ) → StartsField text n rest
      → good_field_at fault text ≡ judged (fault (min n too_great)) (min n too_great, rest)
  unfolding good_field_at
  good_value text n rest h = ap (λ (r : Found). r >>= λ x. judged (fault x.0) x) (field_read text n rest h)

  pub good_read : (text : List ℕ) (n : ℕ) (rest : List ℕ) → StartsGoodField fault text n rest
      → good_field_at fault text ≡ found n rest
  good_read text n rest (h, e) =
      let small : n ≤ max_level = capped.small n e in
      let same : min n too_great ≡ n = omega arith in
      good_value text n rest h
      ∙ ap (λ (o : Option PgmError). judged o (min n too_great, rest)) (capped.same n ∙ e)
      ∙ ap (λ (k : ℕ). found k rest) same

  pub good_fault_read : (text : List ℕ) (c : PgmError) → GoodFieldFault fault text c
      → good_field_at fault text ≡ failed c
  unfolding good_field_at
  good_fault_read text c (inl h) = ap (λ (r : Found). r >>= λ x. judged (fault x.0) x) (field_fault_read text c h)
  good_fault_read text c (inr (n, rest, h, e)) =
      good_value text n rest h
      ∙ ap (λ (o : Option PgmError). judged o (min n too_great, rest)) (capped.same n ∙ e)

  abbrev pub IsGoodField : List ℕ → Found → Type 0
  IsGoodField text (Ok x) = StartsGoodField fault text x.0 x.1
  IsGoodField text (Err e) = GoodFieldFault fault text e

  good_fails : (text : List ℕ) (c : PgmError) → GoodFieldFault fault text c
      → IsGoodField text (good_field_at fault text)
  good_fails text c h = subst (IsGoodField text) (sym (good_fault_read text c h)) h

  good_judged : (text : List ℕ) (n : ℕ) (rest : List ℕ) (o : Option PgmError) → fault n ≡ o → StartsField text n rest
      → IsGoodField text (good_field_at fault text)
  good_judged text n rest None e h = subst (IsGoodField text) (sym (good_read text n rest (h, e))) (h, e)
  good_judged text n rest (Some c) e h = good_fails text c (inr (n, rest, h, e))

  good_from : (text : List ℕ) (r : Found) → IsField text r → IsGoodField text (good_field_at fault text)
  good_from text (Ok x) (n, h, e) = good_judged text n x.1 (fault n) refl h
  good_from text (Err c) h = good_fails text c (inl h)

  pub good_found : (text : List ℕ) → IsGoodField text (good_field_at fault text)
  good_found text = good_from text (field_at text) (field_found text)

-- widths, heights and maxvals are judged alike past 65535
pub width_capped : IsCapped width_fault
width_capped = record { same = λ n. grind arith; small = λ n e. grind arith }

height_same : (w n : ℕ) → height_fault w (min n too_great) ≡ height_fault w n
height_same w n =
    elim (cases_lt too_great n) [
      | inl lt ↦ let e : min n too_great ≡ too_great = omega arith in rw e (grind arith)
      | inr le ↦ let e : min n too_great ≡ n = omega arith in ap (height_fault w) e
    ]

pub height_capped : (w : ℕ) → IsCapped (height_fault w)
height_capped w = record { same = height_same w; small = λ n e. grind arith }

pub maxval_capped : IsCapped maxval_fault
maxval_capped = record { same = λ n. grind arith; small = λ n e. grind arith }

-- ---- samples

module _ (m : ℕ) (small : m ≤ max_level) where
  -- what a value says of a sample
  limited : (go : ℕ × List ℕ → Found) (n : ℕ) (rest : List ℕ) → n ≤ m → within m go (n, rest) ≡ go (n, rest)
  limited go n rest le = cond-false (nat_lt m n) _ _ (le-ltb m n le)

  over : (go : ℕ × List ℕ → Found) (n : ℕ) (rest : List ℕ) → m < n → within m go (n, rest) ≡ failed SampleRange
  over go n rest lt = cond-true (nat_lt m n) _ _ (lt-ltb m n lt)

  -- ---- plain

  plain_number : (text digits rest : List ℕ) → StartsNumber Raster text digits rest
      → sample_at Plain m text ≡ within m sample_end (min (digits_value 10 digits) too_great, rest)
  unfolding sample_at
  plain_number text digits rest h = ap (λ (r : Found). r >>= within m sample_end)
      (number_read Raster BadSample text digits rest h)

  plain_within : (text digits rest : List ℕ) → StartsNumber Raster text digits rest → digits_value 10 digits ≤ m
      → sample_at Plain m text ≡ sample_end (digits_value 10 digits, rest)
  plain_within text digits rest h le =
      let same : min (digits_value 10 digits) too_great ≡ digits_value 10 digits = omega arith in
      plain_number text digits rest h
      ∙ ap (λ (k : ℕ). within m sample_end (k, rest)) same
      ∙ limited sample_end (digits_value 10 digits) rest le

  end_apart : (n : ℕ) (rest : List ℕ) → StartsApart rest → sample_end (n, rest) ≡ found n rest
  unfolding sample_end
  end_apart n [] h = refl
  end_apart n (b ∷ rest) h = cond-true (is_white b) (found n (b ∷ rest)) (failed BadSample) h

  -- ---- raw

  bytes_read : (wide : Bool) (text : List ℕ) (s : ℕ) (rest : List ℕ) → StartsBytes wide text s rest
      → bytes_at wide text ≡ found s rest
  unfolding bytes_at
  bytes_read false text s rest e = ap (bytes_at false) e
  bytes_read true text s rest (high, low, e, v) = ap (bytes_at true) e ∙ ap (λ (k : ℕ). found k rest) (sym v)

  bytes_short : (wide : Bool) (text : List ℕ) → IsShort wide text → bytes_at wide text ≡ failed Truncated
  unfolding bytes_at
  bytes_short false text e = ap (bytes_at false) e
  bytes_short true [] h = refl
  bytes_short true (a ∷ []) h = refl
  bytes_short true (a ∷ b ∷ rest) h = absurd (omega arith)

  raw_value_read : (text : List ℕ) (s : ℕ) (rest : List ℕ) → StartsBytes (is_wide m) text s rest
      → sample_at Raw m text ≡ within m Ok (s, rest)
  unfolding sample_at
  raw_value_read text s rest h = ap (λ (r : Found). r >>= within m Ok) (bytes_read (is_wide m) text s rest h)

  -- a text begins with a raw value, or is too short for one
  bytes_cases : (wide : Bool) (text : List ℕ) → IsShort wide text
      ⊎ ((s : ℕ) × (rest : List ℕ) × StartsBytes wide text s rest)
  bytes_cases false [] = inl refl
  bytes_cases false (b ∷ rest) = inr (b, rest, refl)
  bytes_cases true [] = inl (omega arith)
  bytes_cases true (b ∷ []) = inl (omega arith)
  bytes_cases true (a ∷ b ∷ rest) = inr (a * 256 + b, rest, (a, b, refl, refl))

  -- ---- both

  -- a sample that stands there is read
  pub sample_read : (k : Encoding) (text : List ℕ) (s : ℕ) (rest : List ℕ) → StartsSample k m text s rest
      → sample_at k m text ≡ found s rest
  sample_read Plain text s rest ((digits, h, clear, e), le) =
      plain_within text digits rest h (omega arith) ∙ end_apart (digits_value 10 digits) rest clear
      ∙ ap (λ (n : ℕ). found n rest) (sym e)
  sample_read Raw text s rest (h, le) = raw_value_read text s rest h ∙ limited Ok s rest le

  -- a fault of a sample is answered
  pub sample_fault_read : (k : Encoding) (text : List ℕ) (e : PgmError) → SampleFault k m text e
      → sample_at k m text ≡ failed e
  unfolding sample_at sample_end
  sample_fault_read Plain text Truncated h = ap (λ (r : Found). r >>= within m sample_end)
      (gap_read Raster BadSample text h)
  sample_fault_read Plain text SampleRange (digits, rest, h, great) =
      plain_number text digits rest h ∙ over sample_end (min (digits_value 10 digits) too_great) rest (omega arith)
  sample_fault_read Plain text BadSample (inl h) = ap (λ (r : Found). r >>= within m sample_end)
      (stray_read Raster BadSample text h)
  sample_fault_read Plain text BadSample (inr (digits, rest, b, h, le, w)) =
      plain_within text digits (b ∷ rest) h le ∙ cond-false (is_white b) _ _ w
  sample_fault_read Raw text Truncated h = ap (λ (r : Found). r >>= within m Ok) (bytes_short (is_wide m) text h)
  sample_fault_read Raw text SampleRange (s, rest, h, great) = raw_value_read text s rest h ∙ over Ok s rest great
  sample_fault_read _ text _ h = absurd h

  -- what reading a sample finds
  abbrev pub IsSample : Encoding → List ℕ → Found → Type 0
  IsSample k text (Ok x) = StartsSample k m text x.0 x.1
  IsSample k text (Err e) = SampleFault k m text e

  sample_fails : (k : Encoding) (text : List ℕ) (e : PgmError) → SampleFault k m text e
      → IsSample k text (sample_at k m text)
  sample_fails k text e h = subst (IsSample k text) (sym (sample_fault_read k text e h)) h

  sample_stands : (k : Encoding) (text : List ℕ) (s : ℕ) (rest : List ℕ) → StartsSample k m text s rest
      → IsSample k text (sample_at k m text)
  sample_stands k text s rest h = subst (IsSample k text) (sym (sample_read k text s rest h)) h

  plain_ended : (text digits rest : List ℕ) → StartsNumber Raster text digits rest → digits_value 10 digits ≤ m
      → IsSample Plain text (sample_at Plain m text)
  plain_ended text digits [] h le = sample_stands Plain text (digits_value 10 digits) [] ((digits, h, tt, refl), le)
  plain_ended text digits (b ∷ rest) h le =
      elim (cases_Bool (is_white b)) [
        | inl w ↦ sample_stands Plain text (digits_value 10 digits) (b ∷ rest) ((digits, h, w, refl), le)
        | inr w ↦ sample_fails Plain text BadSample (inr (digits, rest, b, h, le, w))
      ]

  plain_from : (text : List ℕ) → NumberCases Raster text → IsSample Plain text (sample_at Plain m text)
  plain_from text (inl h) = sample_fails Plain text Truncated h
  plain_from text (inr (inl h)) = sample_fails Plain text BadSample (inl h)
  plain_from text (inr (inr (digits, rest, h))) =
      elim (cases_lt m (digits_value 10 digits)) [
        | inl lt ↦ sample_fails Plain text SampleRange (digits, rest, h, lt)
        | inr le ↦ plain_ended text digits rest h le
      ]

  raw_from : (text : List ℕ) → IsShort (is_wide m) text
      ⊎ ((s : ℕ) × (rest : List ℕ) × StartsBytes (is_wide m) text s rest)
      → IsSample Raw text (sample_at Raw m text)
  raw_from text (inl h) = sample_fails Raw text Truncated h
  raw_from text (inr (s, rest, h)) =
      elim (cases_lt m s) [
        | inl lt ↦ sample_fails Raw text SampleRange (s, rest, h, lt)
        | inr le ↦ sample_stands Raw text s rest (h, le)
      ]

  -- what reading a sample says is so
  pub sample_found : (k : Encoding) (text : List ℕ) → IsSample k text (sample_at k m text)
  sample_found Plain text = plain_from text (number_cases Raster text)
  sample_found Raw text = raw_from text (bytes_cases (is_wide m) text)
