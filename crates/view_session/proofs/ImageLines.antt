-- Where the first `image` line stands.
use Rattle.std.proofs.Common.{◌≡◌, ℕ, zero, suc, ◌+◌, ◌-◌, ◌<◌, ◌≤◌, List, [], ◌∷◌, ◌++◌, length, get_or, take, drop}
use Rattle.std.proofs.Common.{refl, sym, ap, ◌∙◌, subst, arith, inl, inr, ◌⊎◌, append_assoc, add-one, length-append}
use Rattle.std.proofs.Common.{length-drop, length-take, codes, rules}
use Rattle.std.proofs.{lemmas.Bool.cases_lt, Math.Seq.take-suc, Math.Seq.drop-cons}
use Rattle.std.proofs.lemmas.List.{take-append-drop, get_or_append_left, get_or-drop, get_or-append_right, take_at}
use Rattle.std.proofs.lemmas.List.{drop_at}
use Rattle.std.specs.List.{AllByRecursion}
use Rattle.view_session.specs.Input.{AreWholeLines, IsImageLine, HasImageLine, IsSplit}

-- no LF stands before index n
abbrev pub HasNoBreakBefore : List ℕ → ℕ → Type 0
HasNoBreakBefore bytes n = (k : ℕ) → k < n → get_or bytes k 0 ≡ 10 → ⊥

no_break_in_word : AllByRecursion (λ (b : ℕ). b ≡ 10 → ⊥) (codes "image")
no_break_in_word = search rules

no_break_in_word_return : AllByRecursion (λ (b : ℕ). b ≡ 10 → ⊥) (codes "image" ++ 13 ∷ [])
no_break_in_word_return = search rules

no_break_at : (line : List ℕ) → AllByRecursion (λ (b : ℕ). b ≡ 10 → ⊥) line → HasNoBreakBefore line (length line)
no_break_at [] all k h = absurd (omega arith)
no_break_at (b ∷ line) all zero h = all.0
no_break_at (b ∷ line) all (suc k) h = no_break_at line all.1 k (omega arith)

image_line_has_no_break : (line : List ℕ) → IsImageLine line → HasNoBreakBefore line (length line)
image_line_has_no_break line (inl e) =
    subst (λ (l : List ℕ). HasNoBreakBefore l (length l)) (sym e) (no_break_at (codes "image") no_break_in_word)
image_line_has_no_break line (inr e) = subst (λ (l : List ℕ). HasNoBreakBefore l (length l)) (sym e)
    (no_break_at (codes "image" ++ 13 ∷ []) no_break_in_word_return)

-- what stands in front of the first LF is the line
pub line_in_front : (bytes line file : List ℕ) (n : ℕ) → IsImageLine line → bytes ≡ line ++ 10 ∷ file
    → n ≤ length bytes → HasNoBreakBefore bytes n → (n < length bytes → get_or bytes n 0 ≡ 10)
    → (take n bytes ≡ line) × (n < length bytes)
line_in_front bytes line file n image parts within before at_end =
    let whole : length bytes ≡ length line + suc (length file) = ap length parts ∙ length-append line (10 ∷ file) in
    let no_break = image_line_has_no_break line image in
    let n-is : n ≡ length line = elim (cases_lt n (length line)) [
      | inl less ↦
          let there : get_or bytes n 0 ≡ 10 = at_end (omega arith) in
          let inside : get_or bytes n 0 ≡ get_or line n 0 = rw parts (get_or_append_left line (10 ∷ file) 0 n less) in
          absurd (no_break n less (sym inside ∙ there))
      | inr at_least ↦ elim (cases_lt (length line) n) [
        | inl more ↦
            let there : get_or bytes (length line) 0 ≡ 10 = rw parts
            (get_or-append_right line (10 ∷ file) (length line) (length line) 0 refl (omega arith) ∙ ap
            (λ k. get_or (10 ∷ file) k 0) (let e : length line - length line ≡ 0 = omega arith in e)) in
            absurd (before (length line) more there)
        | inr at_most ↦ omega arith
      ]
    ] in
    (rw (n-is, parts) (take_at line (10 ∷ file) (length line) refl), omega arith)

-- an `image` line that does not stand before `start` stands there, or behind the LF at start + n
pub next_line : (input edits file : List ℕ) (start n : ℕ) → (line : HasImageLine input edits file)
    → start ≤ length edits → HasNoBreakBefore (drop start input) n
    → ((length edits ≡ start) × (drop start input ≡ line.line ++ 10 ∷ file)) ⊎ (start + n + 1 ≤ length edits)
next_line input edits file start n line not_before before =
    elim (cases_lt start (length edits)) [
      | inr at_most ↦
          let same : length edits ≡ start = omega arith in
          inl (same, rw line.parts (drop_at edits (line.line ++ 10 ∷ file) start same))
      | inl later ↦ elim line.whole_lines [
        | inl none ↦ absurd (omega (arith, ap length none))
        | inr lines ↦
            let front = lines.0 in
            let long : length edits ≡ length front + 1 = ap length lines.1 ∙ length-append front (10 ∷ []) in
            let whole : input ≡ front ++ (10 ∷ (line.line ++ 10 ∷ file)) = line.parts ∙ ap
            (λ (e : List ℕ). e ++ (line.line ++ 10 ∷ file)) lines.1 ∙ append_assoc front (10 ∷ [])
            (line.line ++ 10 ∷ file) in
            let there : get_or input (length front) 0 ≡ 10 = rw whole
            (get_or-append_right front (10 ∷ (line.line ++ 10 ∷ file)) (length front) (length front) 0 refl
            (omega arith) ∙ ap (λ k. get_or (10 ∷ (line.line ++ 10 ∷ file)) k 0)
            (let e : length front - length front ≡ 0 = omega arith in e)) in
            let place : start + (length front - start) ≡ length front = omega arith in
            let relative : get_or (drop start input) (length front - start) 0 ≡ 10 = get_or-drop start input
            (length front - start) 0 ∙ ap (λ k. get_or input k 0) place ∙ there in
            elim (cases_lt (length front - start) n) [
              | inl less ↦ absurd (before (length front - start) less relative)
              | inr at_least ↦ inr (omega arith)
            ]
      ]
    ]

-- the lines so far, with one more
pub one_more_line : (input : List ℕ) (start n : ℕ) → start ≤ length input → n < length (drop start input)
    → get_or (drop start input) n 0 ≡ 10 → AreWholeLines (take (start + (n + 1)) input)
one_more_line input start n within short at_end =
    let here : get_or input (start + n) 0 ≡ 10 = sym (get_or-drop start input n 0) ∙ at_end in
    let long : start + n < length input = omega (arith, length-drop start input) in
    let next : start + (n + 1) ≡ suc (start + n) = omega arith in
    inr (
      take (start + n) input,
      rw next (take-suc input (start + n) 0 long ∙ ap
          (λ (b : ℕ). take (start + n) input ++ b ∷ []) here),
    )

-- the input in three: the lines so far, the line, and what follows its LF
pub around_line : (input : List ℕ) (start n : ℕ) → n < length (drop start input) → get_or (drop start input) n 0 ≡ 10
    → input ≡ take start input ++ (take n (drop start input) ++ 10 ∷ drop (n + 1) (drop start input))
around_line input start n short at_end =
    let rest = drop start input in
    let tail : drop n rest ≡ 10 ∷ drop (n + 1) rest = drop-cons rest n 0 short ∙ ap (λ (b : ℕ). b ∷ drop (suc n) rest)
    at_end ∙ ap (λ k. 10 ∷ drop k rest) (sym (add-one n)) in
    sym (take-append-drop start input) ∙ ap (λ (r : List ℕ). take start input ++ r)
    (sym (take-append-drop n rest) ∙ ap (λ (r : List ℕ). take n rest ++ r) tail)

-- the line at `start` is no `image` line, so each such line stands behind its LF
pub none_at_start : (input : List ℕ) (start n : ℕ) → start ≤ length input → n ≤ length (drop start input)
    → HasNoBreakBefore (drop start input) n → (n < length (drop start input) → get_or (drop start input) n 0 ≡ 10)
    → (n < length (drop start input) → IsImageLine (take n (drop start input)) → ⊥)
    → (edits file : List ℕ) (line : HasImageLine input edits file) → start ≤ length edits → start + n + 1 ≤ length edits
none_at_start input start n within short before at_end no_image edits file line not_before =
    elim (next_line input edits file start n line not_before before) [
      | inl here ↦
          let found = line_in_front (drop start input) line.line file n line.is_image here.1 short before at_end in
          absurd (no_image found.1 (subst IsImageLine (sym found.0) line.is_image))
      | inr later ↦ later
    ]

-- an `image` line begins within the input
pub begins_within : (input edits file : List ℕ) → HasImageLine input edits file → length edits < length input
begins_within input edits file line =
    omega (
      arith,
      ap length line.parts ∙ length-append edits (line.line ++ 10 ∷ file),
      length-append line.line
          (10 ∷ file),
    )

-- the line at `start` is the first `image` line
pub splits_here : (input edits rest line file : List ℕ) (start n : ℕ) → edits ≡ take start input
    → rest ≡ drop start input → line ≡ take n rest → file ≡ drop (n + 1) rest
    → start ≤ length input → n < length rest → get_or rest n 0 ≡ 10 → IsImageLine line
    → AreWholeLines (take start input)
    → ((e f : List ℕ) → HasImageLine input e f → start ≤ length e) → IsSplit input edits file
splits_here input edits rest line file start n edits-is rest-is line-is file-is within short at_end image whole
    none_before =
    let parts = around_line input start n (subst (λ (r : List ℕ). n < length r) rest-is short)
    (subst (λ (r : List ℕ). get_or r n 0 ≡ 10) rest-is at_end) in
    let first : length edits ≤ start = rw edits-is (omega (arith, length-take start input)) in
    record {
      has_line = record {
        line = line;
        is_image = image;
        whole_lines = rw edits-is whole;
        parts = rw (edits-is, line-is, file-is, rest-is) parts;
      };
      first = λ e f other. omega (arith, first, none_before e f other);
    }
