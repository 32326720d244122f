-- Where a number stands first, behind a gap: what reading finds there, and that each text is of one of
-- three kinds.
use Rattle.std.proofs.Common.{◌≡◌, ℕ, ◌+◌, ◌*◌, ◌<◌, min, true, false, List, [], ◌∷◌, ◌++◌, Ok, Err, refl, sym, ap, ◌∙◌}
use Rattle.std.proofs.Common.{arith, ◌⊎◌, inl, inr, append_assoc, subst, IsTrue}
use Rattle.std.proofs.{lemmas.List.append-nil, lemmas.Str.Parse.digit_from_value}
use Rattle.std.proofs.lemmas.Bool.{cond-true, cond-false, cases_Bool}
use Rattle.std.specs.{Char.is_ascii_digit, Char.digit_value, List.AllByRecursion, List.concat}
use Rattle.std.specs.Str.Parse.{AllDigits, IsNumeral, digits_value, digits_value_after}
use Rattle.pgm_codec.specs.{declared.error.PgmError.PgmError, declared.error.PgmError.TheVariants.Truncated}
use Rattle.pgm_codec.specs.{declared.grammar.Section.Section}
use Rattle.pgm_codec.specs.declared.grammar.Section.TheVariants.{Header, Raster}
use Rattle.pgm_codec.specs.Spelling.{is_white, is_line_end, opens_comment, IsOpenComment, IsComment, IsWhitespace}
use Rattle.pgm_codec.specs.Spelling.{IsGap, StartsNoDigit, StartsNumber}
use Rattle.pgm_codec.specs.FirstFault.{EndsInGap, StartsOther, StartsStray}
use Rattle.pgm_codec.specs.Reading.{after_gap, digits_after, number_at, too_great}

-- ---- bytes

-- a digit is worth less than ten
pub digit_below : (b : ℕ) → is_ascii_digit b ≡ true → digit_value b < 10
digit_below b h = grind arith

-- what is worth less than ten is a digit
pub digit_is : (b : ℕ) → digit_value b < 10 → is_ascii_digit b ≡ true
digit_is b h = let r = digit_from_value b h in grind arith

-- a digit is no whitespace
pub digit_not_white : (b : ℕ) → is_ascii_digit b ≡ true → is_white b ≡ false
digit_not_white b h = grind arith

-- what begins a comment is no whitespace
opens_not_white : (place : Section) (b : ℕ) → opens_comment place b ≡ true → is_white b ≡ false
opens_not_white Header b h = grind arith
opens_not_white Raster b h = absurd cc

-- nor is a digit what begins a comment
pub digit_opens_none : (place : Section) (b : ℕ) → is_ascii_digit b ≡ true → opens_comment place b ≡ false
digit_opens_none Header b h = grind arith
digit_opens_none Raster b h = refl

-- ---- gaps

module _ (place : Section) where
  -- the bytes of a comment that has no end yet are passed over
  words_passed : (words rest : List ℕ) → AllByRecursion (λ c. is_line_end c ≡ false) words
      → after_gap place true (words ++ rest) ≡ after_gap place true rest
  unfolding after_gap
  words_passed [] rest h = refl
  words_passed (c ∷ words) rest h = cond-false (is_line_end c) _ _ h.0 ∙ words_passed words rest h.1

  open_passed : (begun rest : List ℕ) → IsOpenComment place begun
      → after_gap place false (begun ++ rest) ≡ after_gap place true rest
  unfolding after_gap
  open_passed begun rest (b, words, opens, all, e) =
      ap (λ (t : List ℕ). after_gap place false (t ++ rest)) e
      ∙ cond-false (is_white b) _ _ (opens_not_white place b opens)
      ∙ cond-true (opens_comment place b) _ _ opens
      ∙ words_passed words rest all

  end_passed : (e : ℕ) (rest : List ℕ) → is_line_end e ≡ true
      → after_gap place true (e ∷ rest) ≡ after_gap place false rest
  unfolding after_gap
  end_passed e rest h = cond-true (is_line_end e) _ _ h

  piece_passed : (piece rest : List ℕ) → IsWhitespace piece ⊎ IsComment place piece
      → after_gap place false (piece ++ rest) ≡ after_gap place false rest
  unfolding after_gap
  piece_passed piece rest (inl (b, w, e)) =
      ap (λ (t : List ℕ). after_gap place false (t ++ rest)) e ∙ cond-true (is_white b) _ _ w
  piece_passed piece rest (inr (begun, e, is_open, ends, parts)) =
      ap (λ (t : List ℕ). after_gap place false (t ++ rest)) parts
      ∙ ap (after_gap place false) (append_assoc begun (e ∷ []) rest)
      ∙ open_passed begun (e ∷ rest) is_open
      ∙ end_passed e rest ends

  pieces_passed : (pieces : List (List ℕ)) (rest : List ℕ)
      → AllByRecursion (λ p. IsWhitespace p ⊎ IsComment place p) pieces
      → after_gap place false (concat pieces ++ rest) ≡ after_gap place false rest
  pieces_passed [] rest h = refl
  pieces_passed (piece ∷ pieces) rest h =
      ap (after_gap place false) (append_assoc piece (concat pieces) rest)
      ∙ piece_passed piece (concat pieces ++ rest) h.0
      ∙ pieces_passed pieces rest h.1

  -- a gap in front is passed over
  pub behind_gap : (gap rest : List ℕ) → IsGap place gap
      → after_gap place false (gap ++ rest) ≡ after_gap place false rest
  behind_gap gap rest (pieces, all, e) = ap (λ (t : List ℕ). after_gap place false (t ++ rest)) e
      ∙ pieces_passed pieces rest all

  -- behind a gap to the end stands nothing
  pub only_gap : (text : List ℕ) → EndsInGap place text → after_gap place false text ≡ []
  unfolding after_gap
  only_gap text (inl h) = ap (after_gap place false) (sym (append-nil text)) ∙ behind_gap text [] h
  only_gap text (inr (gap, begun, is_gap, is_open, e)) =
      ap (after_gap place false) e ∙ behind_gap gap begun is_gap
      ∙ ap (after_gap place false) (sym (append-nil begun)) ∙ open_passed begun [] is_open

  -- where no gap stands, nothing is passed over
  pub no_gap : (b : ℕ) (rest : List ℕ) → is_white b ≡ false → opens_comment place b ≡ false
      → after_gap place false (b ∷ rest) ≡ b ∷ rest
  unfolding after_gap
  no_gap b rest w o = cond-false (is_white b) _ _ w ∙ cond-false (opens_comment place b) _ _ o

  -- another byte behind a gap is reached
  pub other_reached : (text : List ℕ) (b : ℕ) (h : StartsOther place text b) → after_gap place false text ≡ b ∷ h.1
  other_reached text b (gap, rest, is_gap, w, o, e) =
      ap (after_gap place false) e ∙ behind_gap gap (b ∷ rest) is_gap ∙ no_gap b rest w o

  -- a text ends in a gap, or a gap and then another byte stand first
  abbrev pub GapCases : List ℕ → Type 0
  GapCases text = EndsInGap place text ⊎ ((b : ℕ) × StartsOther place text b)

  -- a text behind the beginning of a comment: no end of the comment, or one, and what is behind it
  abbrev CommentCases : List ℕ → Type 0
  CommentCases text =
      AllByRecursion (λ c. is_line_end c ≡ false) text
      ⊎ ((words rest : List ℕ) × (e : ℕ) × AllByRecursion (λ c. is_line_end c ≡ false) words
      × IsTrue (is_line_end e) × (text ≡ words ++ e ∷ rest)
      × GapCases rest)

  empty_gap : IsGap place []
  empty_gap = ([], tt, refl)

  -- one more piece before a gap
  more_gap : (piece gap : List ℕ) → IsWhitespace piece ⊎ IsComment place piece → IsGap place gap
      → IsGap place (piece ++ gap)
  more_gap piece gap p (pieces, all, e) = (piece ∷ pieces, (p, all), ap (λ (t : List ℕ). piece ++ t) e)

  more_cases : (piece text : List ℕ) → IsWhitespace piece ⊎ IsComment place piece → GapCases text
      → GapCases (piece ++ text)
  more_cases piece text p (inl (inl h)) = inl (inl (more_gap piece text p h))
  more_cases piece text p (inl (inr (gap, begun, is_gap, is_open, e))) =
      let parts = ap (λ (t : List ℕ). piece ++ t) e ∙ sym (append_assoc piece gap begun) in
      inl (inr (piece ++ gap, begun, more_gap piece gap p is_gap, is_open, parts))
  more_cases piece text p (inr (b, (gap, rest, is_gap, w, o, e))) =
      let parts = ap (λ (t : List ℕ). piece ++ t) e ∙ sym (append_assoc piece gap (b ∷ rest)) in
      inr (b, (piece ++ gap, rest, more_gap piece gap p is_gap, w, o, parts))

  comment_more : (b : ℕ) (text : List ℕ) → is_line_end b ≡ false → CommentCases text → CommentCases (b ∷ text)
  comment_more b text n (inl all) = inl (n, all)
  comment_more b text n (inr (words, rest, e, all, ends, parts, cases)) =
      inr (b ∷ words, rest, e, (n, all), ends, ap (λ (t : List ℕ). b ∷ t) parts, cases)

  comment_before : (b : ℕ) (text : List ℕ) → opens_comment place b ≡ true → CommentCases text → GapCases (b ∷ text)
  comment_before b text o (inl all) = inl (inr ([], b ∷ text, empty_gap, (b, text, o, all, refl), refl))
  comment_before b text o (inr (words, rest, e, all, ends, parts, cases)) =
      let piece = b ∷ words ++ e ∷ [] in
      let is_piece : IsWhitespace piece ⊎ IsComment place piece = inr
      (b ∷ words, e, (b, words, o, all, refl), ends, refl) in
      let same : b ∷ text ≡ piece ++ rest = ap (λ (t : List ℕ). b ∷ t) (parts
      ∙ sym (append_assoc words (e ∷ []) rest)) in
      subst GapCases (sym same) (more_cases piece rest is_piece cases)

  both_cases : (text : List ℕ) → GapCases text × CommentCases text
  both_cases [] = (inl (inl empty_gap), inl tt)
  both_cases (b ∷ text) =
      let (gap, comment) = both_cases text in (
        elim (cases_Bool (is_white b)) [
          | inl w ↦ more_cases (b ∷ []) text (inl (b, w, refl)) gap
          | inr n ↦ elim (cases_Bool (opens_comment place b)) [
            | inl o ↦ comment_before b text o comment
            | inr m ↦ inr (b, ([], text, empty_gap, n, m, refl))
          ]
        ],
        elim (cases_Bool (is_line_end b)) [
          | inl e ↦ inr ([], text, b, tt, e, refl, gap)
          | inr n ↦ comment_more b text n comment
        ],
      )

  -- a text ends in a gap, or another byte stands behind its gap
  pub gap_cases : (text : List ℕ) → GapCases text
  gap_cases text = let both = both_cases text in both.0

-- ---- digits

cap_step : (n d : ℕ) → min (min n too_great * 10 + d) too_great ≡ min (n * 10 + d) too_great
cap_step n d = omega arith

-- all the digits that stand there are read
pub digits_read : (n : ℕ) (ds rest : List ℕ) → AllDigits 10 ds → StartsNoDigit rest
    → digits_after (min n too_great) (ds ++ rest) ≡ (min (digits_value_after 10 n ds) too_great, rest)
unfolding digits_after
digits_read n [] [] all ends = refl
digits_read n [] (b ∷ rest) all ends = cond-false (is_ascii_digit b) _ _ ends
digits_read n (d ∷ ds) rest all ends =
    cond-true (is_ascii_digit d) _ _ (digit_is d all.0)
    ∙ ap (λ (k : ℕ). digits_after k (ds ++ rest)) (cap_step n (digit_value d))
    ∙ digits_read (n * 10 + digit_value d) ds rest all.1 ends

-- the digits at the front of a text
abbrev DigitsFirst : List ℕ → Type 0
DigitsFirst text = (ds rest : List ℕ) × AllDigits 10 ds × StartsNoDigit rest × (text ≡ ds ++ rest)

digits_more : (b : ℕ) (text : List ℕ) → is_ascii_digit b ≡ true → DigitsFirst text → DigitsFirst (b ∷ text)
digits_more b text d (ds, rest, all, ends, e) =
    (b ∷ ds, rest, (digit_below b d, all), ends, ap (λ (t : List ℕ). b ∷ t) e)

digits_first : (text : List ℕ) → DigitsFirst text
digits_first [] = ([], [], tt, tt, refl)
digits_first (b ∷ text) =
    elim (cases_Bool (is_ascii_digit b)) [
      | inl d ↦ digits_more b text d (digits_first text)
      | inr n ↦ ([], b ∷ text, tt, n, refl)
    ]

-- ---- numbers

module _ (place : Section) where
  numeral_read : (stray : PgmError) (ds rest : List ℕ) → IsNumeral 10 ds → StartsNoDigit rest
      → number_at stray (after_gap place false (ds ++ rest)) ≡ Ok (min (digits_value 10 ds) too_great, rest)
  unfolding number_at
  numeral_read stray [] rest numeral ends = absurd (omega (arith, numeral.0))
  numeral_read stray (d ∷ ds) rest numeral ends =
      let digit : is_ascii_digit d ≡ true = digit_is d numeral.1.0 in
      ap (number_at stray) (no_gap place d (ds ++ rest) (digit_not_white d digit) (digit_opens_none place d digit))
      ∙ cond-true (is_ascii_digit d) _ _ digit
      ∙ ap (λ (x : ℕ × List ℕ). Ok x) (digits_read 0 (d ∷ ds) rest numeral.1 ends)

  -- a number that stands there is read
  pub number_read : (stray : PgmError) (text digits rest : List ℕ) → StartsNumber place text digits rest
      → number_at stray (after_gap place false text) ≡ Ok (min (digits_value 10 digits) too_great, rest)
  number_read stray text digits rest h =
      ap (λ (t : List ℕ). number_at stray (after_gap place false t)) h.parts
      ∙ ap (number_at stray) (behind_gap place h.gap (digits ++ rest) h.is_gap)
      ∙ numeral_read stray digits rest h.numeral h.whole

  -- another byte in its place is answered
  pub stray_read : (stray : PgmError) (text : List ℕ) → StartsStray place text
      → number_at stray (after_gap place false text) ≡ Err stray
  unfolding number_at
  stray_read stray text (b, other, not_digit) =
      ap (number_at stray) (other_reached place text b other) ∙ cond-false (is_ascii_digit b) _ _ not_digit

  -- so is the end in its place
  pub gap_read : (stray : PgmError) (text : List ℕ) → EndsInGap place text
      → number_at stray (after_gap place false text) ≡ Err Truncated
  unfolding number_at
  gap_read stray text h = ap (number_at stray) (only_gap place text h)

  -- a text ends in a gap, or begins with a stray byte, or with a number
  abbrev pub NumberCases : List ℕ → Type 0
  NumberCases text = EndsInGap place text
      ⊎ (StartsStray place text ⊎ ((digits rest : List ℕ) × StartsNumber place text digits rest))

  digit_case : (text : List ℕ) (b : ℕ) (other : StartsOther place text b) → is_ascii_digit b ≡ true
      → DigitsFirst other.1
      → (digits after : List ℕ) × StartsNumber place text digits after
  digit_case text b (gap, rest, is_gap, w, o, e) d (ds, after, all, ends, f) = (
    b ∷ ds,
    after,
    record {
      gap = gap;
      is_gap = is_gap;
      numeral = (omega arith, (digit_below b d, all));
      whole = ends;
      parts = e ∙ ap (λ (t : List ℕ). gap ++ b ∷ t) f;
    },
  )

  number_cases_behind : (text : List ℕ) → GapCases place text → NumberCases text
  number_cases_behind text (inl h) = inl h
  number_cases_behind text (inr (b, other)) =
      elim (cases_Bool (is_ascii_digit b)) [
        | inl d ↦ inr (inr (digit_case text b other d (digits_first other.1)))
        | inr m ↦ inr (inl (b, other, m))
      ]

  -- a number stands first, or another byte, or nothing
  pub number_cases : (text : List ℕ) → NumberCases text
  number_cases text = number_cases_behind text (gap_cases place text)
