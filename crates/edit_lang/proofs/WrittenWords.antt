-- Words and numbers that are written, read back.
use Rattle.std.proofs.Common.{◌≡◌, ℕ, ◌+◌, ◌<◌, ◌≤◌, Bool, true, false, cond, eqb, ltb, List, [], ◌∷◌, ◌++◌, length}
use Rattle.std.proofs.Common.{All, Some, None, map, take, drop, refl, sym, ap, ◌∙◌, arith, append_assoc, length-append}
use Rattle.std.proofs.Common.{decimal, filter}
use Rattle.std.proofs.lemmas.Bool.{cond-true, cond-false, lt-ltb, le-leb}
use Rattle.std.proofs.{lemmas.Bool.Decides.nat_tests, lemmas.Fmt.decimal_is_IsNumeral, lemmas.Fmt.length-decimal-le}
use Rattle.std.proofs.{lemmas.List.Elements.All-head, lemmas.List.Elements.All-tail}
use Rattle.std.proofs.{lemmas.List.Splits.slice_split_none, lemmas.List.Splits.slice_split_at}
use Rattle.std.proofs.lemmas.List.{append-nil, take_at, drop_at, map-id}
use Rattle.stroke_lattice.proofs.Lists.{each_weaker}
use Rattle.std.specs.List.{AllByRecursion, join_by, slice_split, position_or_len}
use Rattle.std.specs.{Str.Lines.strip_carriage_return, Str.Parse.digits_value}
use Rattle.edit_lang.specs.Lines.{line_feed, blank, is_blank, cut_at, cut_lines, lines_of, words_of}
use Rattle.edit_lang.specs.Numbers.{is_number, number_of, coordinate_of}
use Rattle.edit_lang.proofs.{Digits.all_three, Cutting.cut_lines_at}
use Rattle.edit_lang.proofs.Bytes.{Above, above_append, above_less, none_pass, not_at, digits_pass}

-- ---- numbers

pub number_read : (n : ℕ) → n ≤ 65535 → number_of (decimal n) ≡ Some n
unfolding number_of
number_read n le =
    let numeral = decimal_is_IsNumeral n (omega arith) in
    let few = length-decimal-le 5 n (omega arith) (omega arith) (omega arith) in
    let test : is_number (decimal n) ≡ true =
    all_three _ _ _ (lt-ltb 0 (length (decimal n)) numeral.0.0) (le-leb (length (decimal n)) 5 few)
    (digits_pass (decimal n) numeral.0.1) in
    ap (λ b. cond b (Some (digits_value 10 (decimal n))) None) test ∙ ap Some numeral.1

pub coordinate_read : (n : ℕ) → n ≤ 65535 → coordinate_of (decimal n) ≡ Some n
unfolding coordinate_of
coordinate_read n le = rw (number_read n le, le-leb n 65535 le) refl

-- ---- a word cut at a byte

passes_behind : (p : ℕ → Bool) (front : List ℕ) (mark : ℕ) (back : List ℕ) → All (λ b. p b ≡ false) front
    → p mark ≡ true → position_or_len p (front ++ mark ∷ back) ≡ length front
passes_behind p [] mark back none is = rw is refl
passes_behind p (x ∷ front) mark back none is =
    rw (
      All-head (λ b. p b ≡ false) x front none,
      passes_behind p front mark back (All-tail (λ b. p b ≡ false) x front none) is,
    ) (omega arith)

pub cut_read : (mark : ℕ) (front back : List ℕ) → All (λ b. eqb b mark ≡ false) front → eqb mark mark ≡ true
    → cut_at mark (front ++ mark ∷ back) ≡ Some (front, back)
unfolding cut_at
cut_read mark front back none is =
    let place = passes_behind (λ b. eqb b mark) front mark back none is in
    let inside : ltb (length front) (length (front ++ mark ∷ back)) ≡ true =
    lt-ltb _ _ (omega (arith, length-append front (mark ∷ back))) in
    let first : take (length front) (front ++ mark ∷ back) ≡ front = take_at front (mark ∷ back) (length front) refl in
    let rest : drop (length front + 1) (front ++ mark ∷ back) ≡ back =
    ap (drop (length front + 1)) (sym (append_assoc front (mark ∷ []) back))
    ∙ drop_at (front ++ mark ∷ []) back (length front + 1) (length-append front (mark ∷ [])) in
    rw (place, inside, first, rest) refl

-- ---- pieces between bytes

module _ {X : Type 0} (f : X → List ℕ) (p : ℕ → Bool) (mark : ℕ) (is : p mark ≡ true) where
  -- what was joined by a byte is cut there
  pub split_joined : (x : X) (xs : List X) → AllByRecursion (λ y. All (λ b. p b ≡ false) (f y)) (x ∷ xs)
      → slice_split p (join_by f (mark ∷ []) (x ∷ xs)) ≡ map f (x ∷ xs)
  split_joined x [] none =
      ap (slice_split p) (append-nil (f x)) ∙ slice_split_none p (f x) none.0
  split_joined x (y ∷ ys) none =
      ap (λ (t : List ℕ). slice_split p (f x ++ mark ∷ t)) refl
      ∙ slice_split_at p (f x) mark (join_by f (mark ∷ []) (y ∷ ys)) none.0 is
      ∙ ap (λ (pieces : List (List ℕ)). f x ∷ pieces) (split_joined y ys none.1)

  -- where the byte and all pieces are above a bound, so is what was joined
  pub joined_above : (k : ℕ) (x : X) (xs : List X) → k < mark → AllByRecursion (λ y. Above k (f y)) (x ∷ xs)
      → Above k (join_by f (mark ∷ []) (x ∷ xs))
  joined_above k x [] low above = above_append k (f x) [] above.0 tt
  joined_above k x (y ∷ ys) low above =
      above_append k (f x) (mark ∷ join_by f (mark ∷ []) (y ∷ ys)) above.0 (low, joined_above k y ys low above.1)

-- ---- words

-- some bytes, none of them a blank or below
pub record IsWord (word : List ℕ) : Type 0 where
  pub some : 0 < length word
  pub above : Above 32 word

not_blank : (b : ℕ) → 32 < b → is_blank b ≡ false
not_blank b above = grind (arith, nat_tests)

kept_all : (words : List (List ℕ)) → AllByRecursion IsWord words → filter (λ w. ltb 0 (length w)) words ≡ words
kept_all [] each = refl
kept_all (word ∷ words) each =
    cond-true (ltb 0 (length word)) _ _ (lt-ltb 0 (length word) each.0.some)
    ∙ ap (λ (ws : List (List ℕ)). word ∷ ws) (kept_all words each.1)

no_blanks : (words : List (List ℕ)) → AllByRecursion IsWord words
    → AllByRecursion (λ word. All (λ b. is_blank b ≡ false) word) words
no_blanks words each = each_weaker IsWord (λ word. All (λ b. is_blank b ≡ false) word)
    (λ word is. none_pass is_blank 32 not_blank word is.above) words each

-- the words of a line that was written
pub words_read : (word : List ℕ) (words : List (List ℕ)) → AllByRecursion IsWord (word ∷ words)
    → words_of (join_by (λ w. w) (blank ∷ []) (word ∷ words)) ≡ word ∷ words
unfolding words_of
words_read word words each =
    ap (filter (λ w. ltb 0 (length w)))
    (split_joined (λ w. w) is_blank blank refl word words (no_blanks (word ∷ words) each)
    ∙ map-id (word ∷ words))
    ∙ kept_all (word ∷ words) each

above_31 : (words : List (List ℕ)) → AllByRecursion IsWord words → AllByRecursion (λ w. Above 31 w) words
above_31 words each = each_weaker IsWord (λ w. Above 31 w)
    (λ word is. above_less 31 32 word (omega arith) is.above) words each

-- each byte of a line that was written is a blank or above
pub line_above : (word : List ℕ) (words : List (List ℕ)) → AllByRecursion IsWord (word ∷ words)
    → Above 31 (join_by (λ w. w) (blank ∷ []) (word ∷ words))
line_above word words each =
    joined_above (λ w. w) is_blank blank refl 31 word words (omega arith) (above_31 (word ∷ words) each)

-- ---- lines

no_return : (line : List ℕ) → Above 31 line → strip_carriage_return line ≡ line
no_return line above = cond-false _ _ _ (not_at 31 13 (omega arith) (omega arith) line _ above)

no_line_feed : (b : ℕ) → 31 < b → eqb b line_feed ≡ false
no_line_feed b above = grind (arith, nat_tests)

-- the first line of a text in which it was written first
pub line_read : (line rest : List ℕ) → Above 31 line
    → lines_of ((line ++ line_feed ∷ []) ++ rest) ≡ line ∷ lines_of rest
unfolding lines_of
line_read line rest above =
    ap (λ (t : List ℕ). map strip_carriage_return (cut_lines t)) (append_assoc line (line_feed ∷ []) rest)
    ∙ ap (map strip_carriage_return)
    (cut_lines_at line line_feed rest (none_pass (λ b. eqb b line_feed) 31 no_line_feed line above) refl)
    ∙ ap (λ (l : List ℕ). l ∷ map strip_carriage_return (cut_lines rest)) (no_return line above)
