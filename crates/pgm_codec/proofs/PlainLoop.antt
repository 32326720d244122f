-- Lines and rows written one after the other.
use Rattle.std.proofs.Common.{◌≡◌, ℕ, suc, ◌+◌, ◌-◌, ◌*◌, ◌^◌, ◌<◌, ◌≤◌, min, List, [], ◌∷◌, ◌++◌, length, take, drop}
use Rattle.std.proofs.Common.{slice_index, eqb, false, decimal, sym, ap, ◌∙◌, arith, inl, inr, append_assoc, mul-suc}
use Rattle.std.proofs.Common.{flat_map}
use Rattle.std.proofs.{lemmas.Bool.cases_lt, lemmas.List.length-drop, lemmas.List.drop_all, lemmas.List.take_all}
use Rattle.pgm_codec.specs.{Graymap.Graymap, Graymap.IsGraymap, Spelling.line_feed, Spelling.blank}
use Rattle.pgm_codec.specs.PlainWriting.{parts, line_samples, lines_of, plain_line, plain_row}
use Rattle.pgm_codec.proofs.WriteLoop.{one_more}

-- an image has not too many samples for a count of 32 bits
pub few_samples : (g : Graymap) → IsGraymap g → length g.raster.cells < 2 ^ 32
few_samples g h =
    let filled = h.sized.filled in let fits = h.sized.size.pixels_within in omega (arith, filled, fits)

-- a blank and a sample
abbrev pub behind : ℕ → List ℕ
behind s = blank ∷ decimal s

-- one more sample on a line
pub behind_more : (i : ℕ) (out before spaced after samples : List ℕ) → i < length samples
    → before ≡ out ++ flat_map behind (take i samples) → spaced ≡ before ++ blank ∷ []
    → after ≡ spaced ++ decimal (slice_index samples i)
    → after ≡ out ++ flat_map behind (take (i + 1) samples)
behind_more i out before spaced after samples lt so_far one two =
    let done = flat_map behind (take i samples) in
    let digits = decimal (slice_index samples i) in
    two ∙ ap (λ (t : List ℕ). t ++ digits) one
    ∙ append_assoc before (blank ∷ []) digits
    ∙ ap (λ (t : List ℕ). t ++ blank ∷ digits) so_far
    ∙ append_assoc out done (blank ∷ digits)
    ∙ ap (λ (t : List ℕ). out ++ t) (one_more behind i samples lt)

-- the first sample of a line, the others, and LF
pub line_put : (samples first others out one two three : List ℕ) → 0 < length samples → first ≡ take 1 samples
    → others ≡ drop 1 samples
    → one ≡ out ++ decimal (slice_index first 0) → two ≡ one ++ flat_map behind others → three ≡ two ++ line_feed ∷ []
    → three ≡ out ++ plain_line samples
line_put [] first others out one two three some front back a b c = absurd (omega arith)
line_put (s ∷ samples) first others out one two three some front back a b c =
    let digits = decimal s in
    let rest = flat_map behind samples in
    c ∙ ap (λ (t : List ℕ). t ++ line_feed ∷ []) b
    ∙ ap (λ (t : List ℕ). (t ++ flat_map behind others) ++ line_feed ∷ []) a
    ∙ ap (λ (t : List ℕ). ((out ++ decimal (slice_index t 0)) ++ flat_map behind others) ++ line_feed ∷ []) front
    ∙ ap (λ (t : List ℕ). ((out ++ digits) ++ flat_map behind t) ++ line_feed ∷ []) back
    ∙ ap (λ (t : List ℕ). t ++ line_feed ∷ []) (append_assoc out digits rest)
    ∙ append_assoc out (digits ++ rest) (line_feed ∷ [])

-- some sample is left
pub some_left : (rest : List ℕ) → eqb (length rest) 0 ≡ false → 0 < length rest
some_left [] e = absurd cc
some_left (s ∷ rest) e = omega arith

-- a row's first line, and those behind it
pub first_line : (rest : List ℕ) → 0 < length rest
    → plain_row rest ≡ plain_line (take line_samples rest) ++ plain_row (drop line_samples rest)
first_line rest some =
    let left = length rest - line_samples in
    let count : lines_of (length rest) ≡ suc (lines_of left) = omega arith in
    ap (λ (k : ℕ). flat_map plain_line (parts line_samples k rest)) count
    ∙ ap (λ (k : ℕ). plain_line (take line_samples rest)
    ++ flat_map plain_line (parts line_samples (lines_of k) (drop line_samples rest)))
    (sym (length-drop line_samples rest))

-- a line of at most 11 samples is cut off
cut_line : (rest : List ℕ) (n : ℕ) → n ≡ min (length rest) line_samples
    → (take n rest ≡ take line_samples rest) × (drop n rest ≡ drop line_samples rest)
cut_line rest n e =
    elim (cases_lt (length rest) line_samples) [
      | inl lt ↦
          let short : length rest ≤ n = omega (arith, e) in
          let fits : length rest ≤ line_samples = omega arith in (
            take_all n rest short ∙ sym (take_all line_samples rest fits),
            drop_all n rest short ∙ sym (drop_all line_samples rest fits),
          )
      | inr le ↦
          let same : n ≡ line_samples = omega (arith, e) in
          (ap (λ (k : ℕ). take k rest) same, ap (λ (k : ℕ). drop k rest) same)
    ]

-- one more line of a row: the whole stays as it was
pub line_more : (n : ℕ) (before after line rest left all : List ℕ) → 0 < length rest
    → n ≡ min (length rest) line_samples → line ≡ take n rest → left ≡ drop n rest
    → after ≡ before ++ plain_line line → before ++ plain_row rest ≡ all
    → after ++ plain_row left ≡ all
line_more n before after line rest left all some size front back put so_far =
    let cut = cut_line rest n size in
    ap (λ (t : List ℕ). t ++ plain_row left) put
    ∙ append_assoc before (plain_line line) (plain_row left)
    ∙ ap (λ (t : List ℕ). before ++ (plain_line t ++ plain_row left)) (front ∙ cut.0)
    ∙ ap (λ (t : List ℕ). before ++ (plain_line (take line_samples rest) ++ plain_row t)) (back ∙ cut.1)
    ∙ ap (λ (t : List ℕ). before ++ t) (sym (first_line rest some))
    ∙ so_far

-- the rows from this one on
abbrev pub rows_from : ℕ → ℕ → ℕ → List ℕ → List ℕ
rows_from width height y rest = flat_map plain_row (parts width (height - y) rest)

-- one more row: the whole stays as it was
pub row_more : (width height y : ℕ) (before after row rest left all : List ℕ) → y < height
    → row ≡ take width rest → left ≡ drop width rest
    → after ≡ before ++ plain_row row → before ++ rows_from width height y rest ≡ all
    → after ++ rows_from width height (y + 1) left ≡ all
row_more width height y before after row rest left all lt front back put so_far =
    let count : height - y ≡ suc (height - (y + 1)) = omega arith in
    let more = rows_from width height (y + 1) left in
    ap (λ (t : List ℕ). t ++ more) put
    ∙ append_assoc before (plain_row row) more
    ∙ ap (λ (t : List ℕ). before ++ (plain_row t ++ more)) front
    ∙ ap (λ (t : List ℕ). before ++ (plain_row (take width rest) ++ rows_from width height (y + 1) t)) back
    ∙ ap (λ (k : ℕ). before ++ flat_map plain_row (parts width k rest)) (sym count)
    ∙ so_far

-- what is left has a row, and what the rows behind it need
pub row_left : (width height y len : ℕ) → y < height → len ≡ width * (height - y)
    → len ≡ width * (height - (y + 1)) + width
row_left width height y len lt e =
    let count : height - y ≡ suc (height - (y + 1)) = omega arith in
    e ∙ ap (λ (k : ℕ). width * k) count ∙ mul-suc width (height - (y + 1))
