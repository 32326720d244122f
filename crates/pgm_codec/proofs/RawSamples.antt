-- Raw samples: reading them one after the other finds the values that stand at their places.
use Rattle.std.proofs.Common.{◌≡◌, ℕ, zero, suc, ◌+◌, ◌-◌, ◌*◌, ◌/◌, min, ◌<◌, ◌≤◌, Bool, true, false, List, [], ◌∷◌}
use Rattle.std.proofs.Common.{length, drop, slice_index, Ok, Err, refl, sym, ap, subst, ◌∙◌, arith, All, length-drop}
use Rattle.std.proofs.Common.{inl, inr, nat_lt, map, take, w16}
use Rattle.std.proofs.lemmas.Bool.{cond-true, cond-false, cases_Bool, or_parts, ltb-false}
use Rattle.std.proofs.lemmas.List.{append-nil, drop-drop, get_or-drop}
use Rattle.std.proofs.{lemmas.List.Elements.All-from_recursion, Math.Nat.suc-mul}
use Rattle.std.specs.{Int.from_be_bytes, Simd.first_chunks, List.AllByRecursion, List.list_any}
use Rattle.grid_core.specs.Raster.{max_level}
use Rattle.pgm_codec.specs.declared.error.PgmError.TheVariants.{SampleRange, Truncated}
use Rattle.pgm_codec.specs.{declared.grammar.Encoding.TheVariants.Raw, Spelling.is_wide, FirstFault.IsShort}
use Rattle.pgm_codec.specs.Reading.{◌>>=◌, bytes_at, within, sample_width, raw_value, AreRawValues, sample_at}
use Rattle.pgm_codec.specs.Reading.{samples_at}
use Rattle.pgm_codec.proofs.{Fields.Found, Fields.sample_fault_read, SampleLoop.with_front}
use Rattle.pgm_codec.proofs.Rasters.{Many, then_more, step_read, step_fails}

-- the first value of a text that is long enough
first_value : (wide : Bool) (text : List ℕ) → sample_width wide ≤ length text
    → bytes_at wide text ≡ Ok (raw_value wide text 0, drop (sample_width wide) text)
unfolding bytes_at
first_value false [] le = absurd (omega arith)
first_value false (b ∷ rest) le = refl
first_value true [] le = absurd (omega arith)
first_value true (b ∷ []) le = absurd (omega arith)
first_value true (high ∷ low ∷ rest) le = refl

-- the value behind another is the one before it in what is behind
next_value : (wide : Bool) (text : List ℕ) (k : ℕ)
    → raw_value wide text (suc k) ≡ raw_value wide (drop (sample_width wide) text) k
next_value false text k =
    let e : suc k ≡ 1 + k = omega arith in
    ap (slice_index text) e ∙ sym (get_or-drop 1 text k 0)
next_value true text k =
    let e : suc k * 2 ≡ 2 + k * 2 = omega arith in
    let f : suc k * 2 + 1 ≡ 2 + (k * 2 + 1) = omega arith in
    rw (f, e, get_or-drop 2 text (k * 2) 0, get_or-drop 2 text (k * 2 + 1) 0)

-- the first two bytes, joined, are the first value of two bytes
first_pair : (text : List ℕ) → from_be_bytes w16 (take 2 text) ≡ raw_value true text 0
first_pair [] = refl
first_pair (b ∷ []) = refl
first_pair (high ∷ low ∷ rest) = refl

-- the first pairs of bytes, joined, are the first values of two bytes each
pair_value : (count n k : ℕ) (text : List ℕ) → count ≤ n → k < count
    → slice_index (map (from_be_bytes w16) (take count (first_chunks 2 n text))) k ≡ raw_value true text k
pair_value zero n k text le lt = absurd (omega arith)
pair_value (suc count) zero k text le lt = absurd (omega arith)
pair_value (suc count) (suc n) zero text le lt = first_pair text
pair_value (suc count) (suc n) (suc k) text le lt =
    pair_value count n k (drop 2 text) (omega arith) (omega arith) ∙ sym (next_value true text k)

pairs_len : (count n : ℕ) (text : List ℕ) → count ≤ n
    → length (map (from_be_bytes w16) (take count (first_chunks 2 n text))) ≡ count
pairs_len zero n text le = refl
pairs_len (suc count) zero text le = absurd (omega arith)
pairs_len (suc count) (suc n) text le = ap suc (pairs_len count n (drop 2 text) (omega arith))

-- so pairs of bytes are joined to the raw values of a text, where they have two bytes
pub pairs_are_values : (wide : Bool) (count : ℕ) (text : List ℕ) → wide ≡ true
    → count * sample_width wide ≤ length text
    → AreRawValues wide count text (map (from_be_bytes w16) (take count (first_chunks 2 (length text / 2) text)))
pairs_are_values false count text is_two le = absurd cc
pairs_are_values true count text is_two le =
    let enough : count ≤ length text / 2 = omega (arith, le) in
    record {
      length = pairs_len count (length text / 2) text enough;
      values = λ k lt. pair_value count (length text / 2) k text enough lt;
    }

front_none : (r : Many) → r ≡ with_front [] r
front_none (Ok x) = refl
front_none (Err e) = refl

front_more : (s : ℕ) (ss : List ℕ) (r : Many) → then_more s (with_front ss r) ≡ with_front (s ∷ ss) r
front_more s ss (Ok x) = refl
front_more s ss (Err e) = refl

module _ (m : ℕ) (small : m ≤ max_level) where
  abbrev width : ℕ
  width = sample_width (is_wide m)

  -- the values at the first places of a text
  abbrev pub AreValues : List ℕ → List ℕ → Type 0
  AreValues text ss = (k : ℕ) → k < length ss → slice_index ss k ≡ raw_value (is_wide m) text k

  values_behind : (text : List ℕ) (s : ℕ) (ss : List ℕ) → AreValues text (s ∷ ss) → AreValues (drop width text) ss
  values_behind text s ss h k lt = h (suc k) (omega arith) ∙ next_value (is_wide m) text k

  enough_first : (n : ℕ) (text : List ℕ) → suc n * width ≤ length text → width ≤ length text
  enough_first n text le = let e = suc-mul n width in omega (arith, e)

  enough_behind : (n : ℕ) (text : List ℕ) → suc n * width ≤ length text → n * width ≤ length (drop width text)
  enough_behind n text le = let e = suc-mul n width in let f = length-drop width text in omega (arith, e, f)

  one_value : (text : List ℕ) (s : ℕ) (ss : List ℕ) → AreValues text (s ∷ ss) → suc (length ss) * width ≤ length text
      → sample_at Raw m text ≡ within m Ok (s, drop width text)
  unfolding sample_at
  one_value text s ss h le =
      ap (λ (r : Found). r >>= within m Ok)
      (first_value (is_wide m) text (enough_first (length ss) text le)
      ∙ ap (λ (n : ℕ). Ok (n, drop width text)) (sym (h 0 (omega arith))))

  abbrev is_above : ℕ → Bool
  is_above s = nat_lt m s

  -- values that are all samples are read, and what is behind them
  values_read : (ss text : List ℕ) (count : ℕ) → AreValues text ss → length ss * width ≤ length text → length ss ≤ count
      → list_any is_above ss ≡ false
      → samples_at Raw m count text ≡ with_front ss (samples_at Raw m (count - length ss)
      (drop (length ss * width) text))
  values_read [] text count h enough le none =
      let e : count - 0 ≡ count = omega arith in
      let f : 0 * width ≡ 0 = omega arith in
      rw (e, f) (front_none (samples_at Raw m count text))
  values_read (s ∷ ss) text zero h enough le none = absurd (omega arith)
  values_read (s ∷ ss) text (suc count) h enough le none =
      let after = drop width text in
      let parts = or_parts (is_above s) (list_any is_above ss) none in
      let e : count - length ss ≡ suc count - suc (length ss) = omega arith in
      let f : width + length ss * width ≡ suc (length ss) * width = let g = suc-mul (length ss) width in omega
      (arith, g) in
      step_read Raw m small count text s after (one_value text s ss h enough ∙ cond-false (is_above s) _ _ parts.0)
      ∙ ap (then_more s) (values_read ss after count (values_behind text s ss h)
      (enough_behind (length ss) text enough) (omega arith) parts.1)
      ∙ front_more s ss (samples_at Raw m (count - length ss) (drop (length ss * width) after))
      ∙ ap (λ (n : ℕ). with_front (s ∷ ss) (samples_at Raw m n (drop (length ss * width) after))) e
      ∙ ap (λ (t : List ℕ). with_front (s ∷ ss) (samples_at Raw m (suc count - suc (length ss)) t))
      (drop-drop (length ss * width) width text ∙ ap (λ (n : ℕ). drop n text) f)

  -- a value above maxval is the first fault
  above_read : (ss text : List ℕ) (count : ℕ) → AreValues text ss → length ss * width ≤ length text → length ss ≤ count
      → list_any is_above ss ≡ true → samples_at Raw m count text ≡ Err SampleRange
  above_read [] text count h enough le some = absurd cc
  above_read (s ∷ ss) text zero h enough le some = absurd (omega arith)
  above_read (s ∷ ss) text (suc count) h enough le some =
      let after = drop width text in
      let one = one_value text s ss h enough in
      elim (cases_Bool (is_above s)) [
        | inl above ↦ step_fails Raw m small count text SampleRange (one ∙ cond-true (is_above s) _ _ above)
        | inr n ↦ step_read Raw m small count text s after (one ∙ cond-false (is_above s) _ _ n)
            ∙ ap (then_more s) (above_read ss after count (values_behind text s ss h)
            (enough_behind (length ss) text enough) (omega arith) (rw n at some))
      ]

  short_by : (wide : Bool) (text : List ℕ) → length text < sample_width wide → IsShort wide text
  short_by false [] lt = refl
  short_by false (b ∷ rest) lt = absurd (omega arith)
  short_by true text lt = lt

  -- nothing is read where less than a sample is left
  short_read : (count : ℕ) (text : List ℕ) → 0 < count → length text < width
      → samples_at Raw m count text ≡ Err Truncated
  short_read zero text some lt = absurd (omega arith)
  short_read (suc count) text some lt =
      step_fails Raw m small count text Truncated (sample_fault_read m small Raw text Truncated
      (short_by (is_wide m) text lt))

  -- samples, and less than another
  too_few_read : (ss text : List ℕ) (count : ℕ) → AreValues text ss → length ss * width ≤ length text
      → list_any is_above ss ≡ false → length ss < count → length text < (length ss + 1) * width
      → samples_at Raw m count text ≡ Err Truncated
  too_few_read ss text count h enough none lt short =
      let rest = drop (length ss * width) text in
      let e : (length ss + 1) * width ≡ length ss * width + width =
      let add : length ss + 1 ≡ suc (length ss) = omega arith in ap (λ (n : ℕ). n * width) add
      ∙ suc-mul (length ss) width in
      let f = length-drop (length ss * width) text in
      let left : length rest < width = omega (arith, e, f) in
      values_read ss text count h enough (omega arith) none
      ∙ ap (with_front ss) (short_read (count - length ss) rest (omega arith) left)

  -- as many samples as are wanted
  enough_read : (ss text : List ℕ) (count : ℕ) → AreValues text ss → length ss * width ≤ length text
      → list_any is_above ss ≡ false → length ss ≡ count
      → samples_at Raw m count text ≡ Ok (ss, drop (count * width) text)
  unfolding samples_at
  enough_read ss text count h enough none same =
      let e : count - length ss ≡ 0 = omega arith in
      values_read ss text count h enough (omega arith) none
      ∙ ap (λ (n : ℕ). with_front ss (samples_at Raw m n (drop (length ss * width) text))) e
      ∙ ap (λ (t : List ℕ). Ok (t, drop (length ss * width) text)) (append-nil ss)
      ∙ ap (λ (n : ℕ). Ok (ss, drop (n * width) text)) same

  fits : (wide : Bool) (len count : ℕ) → min count (len / sample_width wide) * sample_width wide ≤ len
  fits false len count = omega arith
  fits true len count = omega arith

  no_more : (wide : Bool) (len count : ℕ) → min count (len / sample_width wide) < count
      → len < (min count (len / sample_width wide) + 1) * sample_width wide
  no_more false len count lt = omega arith
  no_more true len count lt = omega arith

  -- the values at all the places that a text has, or as many as are wanted
  pub record AreFirst (text ss : List ℕ) (count : ℕ) : Type 0 where
    pub len : length ss ≡ min count (length text / width)
    pub values : AreValues text ss

  enough : (text ss : List ℕ) (count : ℕ) → AreFirst text ss count → length ss * width ≤ length text
  enough text ss count h = rw h.len (fits (is_wide m) (length text) count)

  -- what is read where one of them is above maxval, where there are too few, and where there are enough
  pub above_gives : (text ss : List ℕ) (count : ℕ) → AreFirst text ss count → list_any is_above ss ≡ true
      → samples_at Raw m count text ≡ Err SampleRange
  above_gives text ss count h some =
      let e = h.len in above_read ss text count h.values (enough text ss count h) (omega (arith, e)) some

  pub short_gives : (text ss : List ℕ) (count : ℕ) → AreFirst text ss count → list_any is_above ss ≡ false
      → length ss < count
      → samples_at Raw m count text ≡ Err Truncated
  short_gives text ss count h none lt =
      let short : length text < (length ss + 1) * width = rw h.len
      (no_more (is_wide m) (length text) count (subst (λ n. n < count) h.len lt)) in
      too_few_read ss text count h.values (enough text ss count h) none lt short

  pub enough_gives : (text ss : List ℕ) (count : ℕ) → AreFirst text ss count → list_any is_above ss ≡ false
      → count ≤ length ss
      → samples_at Raw m count text ≡ Ok (ss, drop (length ss * width) text)
  enough_gives text ss count h none le =
      let e = h.len in
      let same : length ss ≡ count = omega (arith, e) in
      enough_read ss text count h.values (enough text ss count h) none same
      ∙ ap (λ (n : ℕ). Ok (ss, drop (n * width) text)) (sym same)

  all_by_recursion : (ss : List ℕ) → list_any is_above ss ≡ false → AllByRecursion (λ s. s ≤ m) ss
  all_by_recursion [] none = tt
  all_by_recursion (s ∷ ss) none =
      let parts = or_parts (is_above s) (list_any is_above ss) none in
      (ltb-false m s parts.0, all_by_recursion ss parts.1)

  -- where none is above maxval, all are within it
  pub all_within : (ss : List ℕ) → list_any is_above ss ≡ false → All (λ s. s ≤ m) ss
  all_within ss none = All-from_recursion (λ s. s ≤ m) ss (all_by_recursion ss none)
