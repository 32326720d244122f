-- How the first line of a text and the first word of a line are cut off.
use Rattle.std.proofs.Common.{◌≡◌, ℕ, ◌+◌, ◌<◌, ◌≤◌, Bool, true, false, cond, eqb, ltb, List, [], ◌∷◌, ◌++◌, length}
use Rattle.std.proofs.Common.{All, Option, Some, None, take, drop, get_or, map, refl, sym, ap, ◌∙◌, inl, inr}
use Rattle.std.proofs.Common.{drop_of_length-le, arith, filter}
use Rattle.std.proofs.lemmas.Bool.{lt-ltb, le-ltb, cases_lt}
use Rattle.std.proofs.lemmas.List.{take_all, length-take-le, drop_more}
use Rattle.std.proofs.lemmas.List.Elements.{All-head, All-tail}
use Rattle.std.proofs.lemmas.List.Splits.{slice_split_none, slice_split_first, slice_split-cons_yes}
use Rattle.std.proofs.lemmas.List.Sums.{split_at_first, passes_at_first, position_or_len_is}
use Rattle.std.specs.List.{slice_split, onto_first, position_or_len, before_first, after_first}
use Rattle.std.specs.Str.Lines.{strip_carriage_return}
use Rattle.edit_lang.proofs.Lists.{front_fails, all_fail}
use Rattle.edit_lang.specs.Lines.{line_feed, cut_at, cut_lines, lines_of, is_blank, words_of}

abbrev parts_or_none : Option (List ℕ × List ℕ) → List ℕ × List ℕ
parts_or_none (Some parts) = parts
parts_or_none None = ([], [])

-- a byte that is there: where it stands, what is before it and what behind it
pub cut_found : (mark : ℕ) (word front back : List ℕ) → Some (front, back) ≡ cut_at mark word
    → (position_or_len (λ b. eqb b mark) word < length word) × (front ≡ before_first (λ b. eqb b mark) word)
    × (back ≡ after_first (λ b. eqb b mark) word)
unfolding cut_at
cut_found mark word front back e =
    let p : ℕ → Bool = λ b. eqb b mark in
    elim (cases_lt (position_or_len p word) (length word)) [
      | inl inside ↦
          let cut : cut_at mark word ≡ Some (before_first p word, after_first p word) = rw (lt-ltb _ _ inside) refl in
          let parts = ap parts_or_none (e ∙ cut) in
          (inside, ap (λ (q : List ℕ × List ℕ). q.0) parts, ap (λ (q : List ℕ × List ℕ). q.1) parts)
      | inr outside ↦ absurd (let none : cut_at mark word ≡ None = rw (le-ltb _ _ outside) refl in cc)
    ]

-- a byte that is not there
pub cut_missed : (mark : ℕ) (word : List ℕ) → None ≡ cut_at mark word
    → length word ≤ position_or_len (λ b. eqb b mark) word
unfolding cut_at
cut_missed mark word e =
    let p : ℕ → Bool = λ b. eqb b mark in
    elim (cases_lt (position_or_len p word) (length word)) [
      | inl inside ↦ absurd (let some : cut_at mark word ≡ Some (before_first p word, after_first p word) =
          rw (lt-ltb _ _ inside) refl in cc)
      | inr outside ↦ outside
    ]

cut_lines-cons_yes : (b : ℕ) (bs : List ℕ) → eqb b line_feed ≡ true → cut_lines (b ∷ bs) ≡ [] ∷ cut_lines bs
unfolding cut_lines
cut_lines-cons_yes b bs e = ap (λ t. cond t ([] ∷ cut_lines bs) (onto_first b (cut_lines bs))) e

cut_lines-cons_no : (b : ℕ) (bs : List ℕ) → eqb b line_feed ≡ false → cut_lines (b ∷ bs) ≡ onto_first b (cut_lines bs)
unfolding cut_lines
cut_lines-cons_no b bs e = ap (λ t. cond t ([] ∷ cut_lines bs) (onto_first b (cut_lines bs))) e

cut_lines-nil : cut_lines [] ≡ []
unfolding cut_lines
cut_lines-nil = refl

cut_lines_none : (b : ℕ) (bs : List ℕ) → All (λ x. eqb x line_feed ≡ false) (b ∷ bs)
    → cut_lines (b ∷ bs) ≡ (b ∷ bs) ∷ []
cut_lines_none b [] h =
    cut_lines-cons_no b [] (All-head (λ x. eqb x line_feed ≡ false) b [] h) ∙ ap (onto_first b) cut_lines-nil
cut_lines_none b (c ∷ bs) h =
    cut_lines-cons_no b (c ∷ bs) (All-head (λ x. eqb x line_feed ≡ false) b (c ∷ bs) h)
    ∙ ap (onto_first b) (cut_lines_none c bs (All-tail (λ x. eqb x line_feed ≡ false) b (c ∷ bs) h))

-- the first line ends before the first LF
pub cut_lines_at : (xs : List ℕ) (y : ℕ) (ys : List ℕ) → All (λ x. eqb x line_feed ≡ false) xs
    → eqb y line_feed ≡ true → cut_lines (xs ++ y ∷ ys) ≡ xs ∷ cut_lines ys
cut_lines_at [] y ys h e = cut_lines-cons_yes y ys e
cut_lines_at (x ∷ xs) y ys h e =
    cut_lines-cons_no x (xs ++ y ∷ ys) (All-head (λ z. eqb z line_feed ≡ false) x xs h)
    ∙ ap (onto_first x) (cut_lines_at xs y ys (All-tail (λ z. eqb z line_feed ≡ false) x xs h) e)

cut_lines_first : (xs : List ℕ) → position_or_len (λ b. eqb b line_feed) xs < length xs
    → cut_lines xs ≡ before_first (λ b. eqb b line_feed) xs ∷ cut_lines (after_first (λ b. eqb b line_feed) xs)
cut_lines_first xs l =
    let p : ℕ → Bool = λ b. eqb b line_feed in
    ap cut_lines (split_at_first p xs 0 l) ∙ cut_lines_at (before_first p xs) _ (after_first p xs) (front_fails p xs)
    (passes_at_first p xs 0 l)

-- the first line ends at the first LF
pub lines_first : (text line rest : List ℕ) → Some (line, rest) ≡ cut_at line_feed text
    → lines_of text ≡ strip_carriage_return line ∷ lines_of rest
unfolding lines_of
lines_first text line rest e =
    let cut = cut_found line_feed text line rest e in
    rw (cut.1, cut.2) (ap (map strip_carriage_return) (cut_lines_first text cut.0))

cut_lines_last : (text : List ℕ) → 0 < length text → length text ≤ position_or_len (λ b. eqb b line_feed) text
    → cut_lines text ≡ text ∷ []
cut_lines_last [] l h = absurd (omega arith)
cut_lines_last (b ∷ bs) l h = cut_lines_none b bs (all_fail (λ x. eqb x line_feed) (b ∷ bs) h)

pub lines-nil : lines_of [] ≡ []
unfolding lines_of cut_lines
lines-nil = refl

-- without an LF, all of a text is one line
pub lines_last : (text : List ℕ) → 0 < length text → None ≡ cut_at line_feed text
    → lines_of text ≡ strip_carriage_return text ∷ lines_of []
unfolding lines_of
lines_last text l e =
    ap (map strip_carriage_return) (cut_lines_last text l (cut_missed line_feed text e))
    ∙ ap (λ ls. strip_carriage_return text ∷ ls) (sym lines-nil)

pub words-nil : words_of [] ≡ []
unfolding words_of
words-nil = refl

-- a blank or a TAB before a line changes no word
pub words-blank : (b : ℕ) (bs : List ℕ) → is_blank b ≡ true → words_of (b ∷ bs) ≡ words_of bs
unfolding words_of
words-blank b bs e = ap (filter (λ word. ltb 0 (length word))) (slice_split-cons_yes is_blank b bs e)

keeps : (word : List ℕ) (pieces : List (List ℕ)) → 0 < length word
    → filter (λ w. ltb 0 (length w)) (word ∷ pieces) ≡ word ∷ filter (λ w. ltb 0 (length w)) pieces
keeps word pieces l =
    let others = filter (λ w. ltb 0 (length w)) pieces in
    ap (λ t. cond t (word ∷ others) others) (lt-ltb 0 (length word) l)

whole_word : (line : List ℕ) → 0 < length line → length line ≤ position_or_len is_blank line
    → words_of line ≡ line ∷ []
unfolding words_of
whole_word line l h =
    ap (filter (λ word. ltb 0 (length word))) (slice_split_none is_blank line (all_fail is_blank line h))
    ∙ keeps line [] l

front_word : (line : List ℕ) → 0 < position_or_len is_blank line → position_or_len is_blank line < length line
    → words_of line ≡ before_first is_blank line ∷ words_of (after_first is_blank line)
unfolding words_of
front_word line l h =
    let some : 0 < length (before_first is_blank line) =
    omega (arith, length-take-le (position_or_len is_blank line) line (omega arith)) in
    ap (filter (λ word. ltb 0 (length word))) (slice_split_first is_blank line 0 h)
    ∙ keeps (before_first is_blank line) (slice_split is_blank (after_first is_blank line)) some

-- the first word of a line that begins with one ends before the first blank or TAB
pub words_first : (line : List ℕ) (n : ℕ) → n ≡ position_or_len is_blank line → 0 < n → n ≤ length line
    → words_of line ≡ take n line ∷ words_of (drop n line)
words_first line n e l h =
    elim (cases_lt n (length line)) [
      | inl lt ↦
          let inside : position_or_len is_blank line < length line = omega arith in
          let blank : is_blank (get_or line n 0) ≡ true = rw e (passes_at_first is_blank line 0 inside) in
          let rest : words_of (drop n line) ≡ words_of (drop (n + 1) line) =
          rw (drop_more line n 0 lt) (words-blank (get_or line n 0) (drop (n + 1) line) blank) in
          let front : words_of line ≡ take n line ∷ words_of (drop (n + 1) line) =
          rw e (front_word line (omega arith) inside) in
          front ∙ ap (λ ws. take n line ∷ ws) (sym rest)
      | inr ge ↦
          let whole : words_of line ≡ line ∷ [] = whole_word line (omega arith) (omega arith) in
          let none : words_of (drop n line) ≡ [] = rw (drop_of_length-le line ge) words-nil in
          whole ∙ rw (take_all n line ge, none) refl
    ]

-- the place of the first blank or TAB
pub blank_found : (line : List ℕ) (i : ℕ) → i ≤ length line
    → ((k : ℕ) → k < i → is_blank (get_or line k 0) ≡ false) → (i < length line → is_blank (get_or line i 0) ≡ true)
    → i ≡ position_or_len is_blank line
blank_found line i l before here = sym (position_or_len_is is_blank line i 0 l before here)

-- a blank or a TAB is passed over
pub passes_blank : (line : List ℕ) (i : ℕ) → i < length line → is_blank (get_or line i 0) ≡ true
    → words_of (drop i line) ≡ words_of line → words_of (drop (i + 1) line) ≡ words_of line
passes_blank line i l e h =
    let here : words_of (drop i line) ≡ words_of (drop (i + 1) line) =
    rw (drop_more line i 0 l) (words-blank (get_or line i 0) (drop (i + 1) line) e) in
    sym here ∙ h
