-- The plain text of an image spells it.
use Rattle.std.proofs.Common.{◌≡◌, ℕ, zero, suc, ◌*◌, ◌<◌, ◌≤◌, true, false, List, [], ◌∷◌, ◌++◌, length, take, drop}
use Rattle.std.proofs.Common.{slice_index, decimal, refl, sym, ap, subst, ◌∙◌, arith, inl, append_assoc, mul-zero}
use Rattle.std.proofs.Common.{mul-suc, flat_map}
use Rattle.std.proofs.lemmas.Fmt.{decimal_is_IsNumeral}
use Rattle.std.proofs.lemmas.List.{append-nil, length-drop, length-take, take-append-drop, nil_from_length}
use Rattle.std.specs.Char.{is_ascii_digit}
use Rattle.grid_core.specs.Raster.{max_level}
use Rattle.pgm_codec.specs.{declared.grammar.Encoding.TheVariants.Plain, declared.grammar.Section.TheVariants.Raster}
use Rattle.pgm_codec.specs.Graymap.{Graymap, IsGraymap}
use Rattle.pgm_codec.specs.Spelling.{line_feed, blank, is_white, IsGap, StartsNumber, StartsSamples, PgmSpells}
use Rattle.pgm_codec.specs.PlainWriting.{parts, line_samples, lines_of, plain_line, plain_row, plain_text}
use Rattle.pgm_codec.proofs.{Headers.header_stands, Images.same_image}

-- ---- samples with a whitespace byte behind each

abbrev AreSpaced : List ℕ → List ℕ → Type 0
AreSpaced text [] = text ≡ []
AreSpaced text (s ∷ ss) =
    (b : ℕ) × (after : List ℕ) × (is_white b ≡ true) × (text ≡ decimal s ++ b ∷ after) × AreSpaced after ss

-- one text behind the other
both_spaced : (s t ss ts : List ℕ) → AreSpaced s ss → AreSpaced t ts → AreSpaced (s ++ t) (ss ++ ts)
both_spaced s t [] ts e h = subst (λ (u : List ℕ). AreSpaced (u ++ t) ts) (sym e) h
both_spaced s t (x ∷ ss) ts (b, after, white, e, more) h = (
  b,
  after ++ t,
  white,
  ap (λ (u : List ℕ). u ++ t) e ∙ append_assoc (decimal x) (b ∷ after) t,
  both_spaced after t ss ts more h,
)

-- the samples of a line behind its first, and LF
abbrev line_rest : List ℕ → List ℕ
line_rest ss = flat_map (λ (y : ℕ). (blank ∷ []) ++ decimal y) ss ++ line_feed ∷ []

line_from : (x : ℕ) (ss : List ℕ) → AreSpaced (decimal x ++ line_rest ss) (x ∷ ss)
line_from x [] = (line_feed, [], refl, refl, refl)
line_from x (y ∷ ss) = (
  blank,
  decimal y ++ line_rest ss,
  refl,
  ap (λ (t : List ℕ). decimal x ++ blank ∷ t)
      (append_assoc (decimal y) (flat_map (λ (z : ℕ). (blank ∷ []) ++ decimal z) ss) (line_feed ∷ [])),
  line_from y ss,
)

line_spaced : (ss : List ℕ) → 0 < length ss → AreSpaced (plain_line ss) ss
line_spaced [] some = absurd (omega arith)
line_spaced (x ∷ ss) some =
    subst (λ (t : List ℕ). AreSpaced t (x ∷ ss))
    (sym (append_assoc (decimal x) (flat_map (λ (z : ℕ). (blank ∷ []) ++ decimal z) ss) (line_feed ∷ [])))
    (line_from x ss)

-- the front of a list, and what is behind it
parted : (text : List ℕ) (n : ℕ) (xs : List ℕ) → AreSpaced text (take n xs ++ drop n xs) → AreSpaced text xs
parted text n xs h = subst (AreSpaced text) (take-append-drop n xs) h

lines_spaced : (count : ℕ) (xs : List ℕ) → count ≡ lines_of (length xs)
    → AreSpaced (flat_map plain_line (parts line_samples count xs)) xs
lines_spaced zero xs e =
    let none : length xs ≡ 0 = omega (arith, e) in
    subst (AreSpaced []) (sym (nil_from_length xs none)) refl
lines_spaced (suc count) xs e =
    let front = take line_samples xs in
    let back = drop line_samples xs in
    let long = length-take line_samples xs in
    let left = length-drop line_samples xs in
    parted (plain_line front ++ flat_map plain_line (parts line_samples count back)) line_samples xs
    (both_spaced (plain_line front) (flat_map plain_line (parts line_samples count back)) front back
    (line_spaced front (omega (arith, e, long)))
    (lines_spaced count back (omega (arith, e, left))))

row_spaced : (row : List ℕ) → AreSpaced (plain_row row) row
row_spaced row = lines_spaced (lines_of (length row)) row refl

rows_spaced : (width count : ℕ) (xs : List ℕ) → length xs ≡ width * count
    → AreSpaced (flat_map plain_row (parts width count xs)) xs
rows_spaced width zero xs e = subst (AreSpaced []) (sym (nil_from_length xs (e ∙ mul-zero width))) refl
rows_spaced width (suc count) xs e =
    let front = take width xs in
    let back = drop width xs in
    let left = length-drop width xs in
    let whole = mul-suc width count in
    parted (plain_row front ++ flat_map plain_row (parts width count back)) width xs
    (both_spaced (plain_row front) (flat_map plain_row (parts width count back)) front back
    (row_spaced front)
    (rows_spaced width count back (omega (arith, e, left, whole))))

-- ---- the raster

white_no_digit : (b : ℕ) → is_white b ≡ true → is_ascii_digit b ≡ false
white_no_digit b h = grind arith

-- behind a gap they are the samples of a raster, and a gap is left
samples_stand : (m : ℕ) → m ≤ max_level → (gap text ss : List ℕ) → IsGap Raster gap → AreSpaced text ss
    → ((k : ℕ) → k < length ss → slice_index ss k ≤ m)
    → (rest : List ℕ) × StartsSamples Plain m (gap ++ text) ss rest × IsGap Raster rest
samples_stand m small gap text [] is_gap e within =
    (gap, ap (λ (t : List ℕ). gap ++ t) e ∙ append-nil gap, is_gap)
samples_stand m small gap text (s ∷ ss) is_gap (b, after, white, e, more) within =
    let first : s ≤ m = within 0 (omega arith) in
    let p = decimal_is_IsNumeral s (omega arith) in
    let number : StartsNumber Raster (gap ++ text) (decimal s) (b ∷ after) = record {
      gap = gap;
      is_gap = is_gap;
      numeral = p.0;
      whole = white_no_digit b white;
      parts = ap (λ (t : List ℕ). gap ++ t) e;
    } in
    let (rest, behind, ends) =
    samples_stand m small (b ∷ []) after ss ((b ∷ []) ∷ [], (inl (b, white, refl), tt), refl) more
    (λ k lt. within (suc k) (omega arith)) in
    (rest, (b ∷ after, ((decimal s, number, white, sym p.1), first), behind), ends)

-- what is written spells the image
pub plain_spells : (g : Graymap) → IsGraymap g → PgmSpells (plain_text g) g
unfolding plain_text
plain_spells g h =
    let raster = flat_map plain_row (parts g.raster.width g.raster.height g.raster.cells) in
    let spaced = rows_spaced g.raster.width g.raster.height g.raster.cells h.sized.filled in
    let (rest, samples, ended) =
    samples_stand g.maxval h.maxval_within [] raster g.raster.cells ([], tt, refl) spaced h.samples_within in
    record {
      encoding = Plain;
      raster = raster;
      rest = rest;
      header = header_stands Plain g raster h;
      samples = samples;
      count = h.sized.filled;
      ended = ended;
    }

-- and no other
pub plain_spells_only : (g other : Graymap) → IsGraymap g → PgmSpells (plain_text g) other → other ≡ g
plain_spells_only g other h s = same_image (plain_text g) other g s (plain_spells g h)
