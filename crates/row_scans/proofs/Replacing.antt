-- A part of a list that is replaced by as many other values.
use Rattle.std.proofs.Common.{◌≡◌, ℕ, ◌+◌, ◌-◌, ◌<◌, ◌≤◌, List, ◌++◌, length, get_or, take, drop, sym, ap, ◌∙◌, inl}
use Rattle.std.proofs.Common.{inr, arith, refl, zero-add}
use Rattle.std.proofs.lemmas.List.{length-append, length-take-le, length-drop, get_or-take, get_or-drop}
use Rattle.std.proofs.lemmas.List.{get_or_append_left, get_or-append_right, ext_get_or, take-take}
use Rattle.std.proofs.lemmas.List.Edits.{length-between, get_or-between}
use Rattle.std.proofs.{lemmas.Slice.between_is, lemmas.Bool.cases_lt}
use Rattle.std.specs.List.{between}
use borrow.Rule.Slice.PartMut.{put_mid}

-- from a place on, the list has the values of the part, and elsewhere its own
pub record IsReplaced (start : ℕ) (part before after : List ℕ) : Type 0 where
  pub fits : start + length part ≤ length before
  pub long : length after ≡ length before
  pub inside : (k : ℕ) → k < length part → get_or after (start + k) 0 ≡ get_or part k 0
  pub ahead : (i : ℕ) → i < start → get_or after i 0 ≡ get_or before i 0
  pub behind : (i : ℕ) → start + length part ≤ i → get_or after i 0 ≡ get_or before i 0

pub replaced_mid : (start n : ℕ) (part xs : List ℕ) → length part ≡ n → start + n ≤ length xs
    → IsReplaced start part xs (put_mid start n xs part)
replaced_mid start n part xs same fits =
    let rest = drop n (drop start xs) in
    let front : length (take start xs) ≡ start = length-take-le start xs (omega arith) in
    record {
      fits = omega arith;
      long =
          omega (
            arith,
            length-append (take start xs) (part ++ rest),
            length-append part rest,
            length-drop n (drop start xs),
            length-drop start xs,
          );
      inside = λ k less.
          let here : start + k - start ≡ k = omega arith in
          get_or-append_right (take start xs) (part ++ rest) start (start + k) 0 front (omega arith)
          ∙ ap (λ i. get_or (part ++ rest) i 0) here ∙ get_or_append_left part rest 0 k less;
      ahead = λ i less.
          get_or_append_left (take start xs) (part ++ rest) 0 i (omega arith) ∙ get_or-take start xs i 0 less;
      behind = λ i past.
          let place : start + (n + (i - start - n)) ≡ i = omega arith in
          get_or-append_right (take start xs) (part ++ rest) start i 0 front (omega arith)
          ∙ get_or-append_right part rest n (i - start) 0 same (omega arith)
          ∙ get_or-drop n (drop start xs) (i - start - n) 0 ∙ get_or-drop start xs (n + (i - start - n)) 0
          ∙ ap (λ j. get_or xs j 0) place;
    }

pub replaced_front : (n : ℕ) (part xs : List ℕ) → length part ≡ n → n ≤ length xs
    → IsReplaced 0 part xs (part ++ drop n xs)
replaced_front n part xs same fits = record {
  fits = omega arith;
  long = omega (arith, length-append part (drop n xs), length-drop n xs);
  inside = λ k less.
      ap (λ i. get_or (part ++ drop n xs) i 0) (zero-add k) ∙ get_or_append_left part (drop n xs) 0 k less;
  ahead = λ i less. absurd (omega arith);
  behind = λ i past.
      let rest : n + (i - n) ≡ i = omega arith in
      get_or-append_right part (drop n xs) n i 0 same (omega arith) ∙ get_or-drop n xs (i - n) 0
      ∙ ap (λ j. get_or xs j 0) rest;
}

-- the part, read back
pub replaced_read : {part before after : List ℕ} (start end : ℕ) → start + length part ≡ end
    → IsReplaced start part before after → part ≡ between start end after
replaced_read {part} {after = after} start end same replaced =
    let within : end ≤ length after = omega (arith, replaced.fits, replaced.long) in
    ext_get_or 0 part (between start end after) (omega (arith, length-between after start end within))
    (λ k less. sym (replaced.inside k less) ∙ sym (get_or-between after start end k 0 (omega arith)))

-- a part of a list that goes on
pub replaced_within : (start : ℕ) (part before after rest : List ℕ) → IsReplaced start part before after
    → IsReplaced start part (before ++ rest) (after ++ rest)
replaced_within start part before after rest replaced = record {
  fits = omega (arith, replaced.fits, length-append before rest);
  long = omega (arith, replaced.long, length-append before rest, length-append after rest);
  inside = λ k less.
      get_or_append_left after rest 0 (start + k) (omega (arith, replaced.fits, replaced.long))
      ∙ replaced.inside k less;
  ahead = λ i less.
      get_or_append_left after rest 0 i (omega (arith, replaced.fits, replaced.long)) ∙ replaced.ahead i less
      ∙ sym (get_or_append_left before rest 0 i (omega (arith, replaced.fits)));
  behind = λ i past. elim (cases_lt i (length before)) [
    | inl within ↦
        get_or_append_left after rest 0 i (omega (arith, replaced.long)) ∙ replaced.behind i past
        ∙ sym (get_or_append_left before rest 0 i within)
    | inr beyond ↦
        get_or-append_right after rest (length before) i 0 replaced.long beyond
        ∙ sym (get_or-append_right before rest (length before) i 0 refl beyond)
  ];
}

-- a part of a front of a list
pub between_in_front : (xs : List ℕ) (n i j : ℕ) → j ≤ n → between i j (take n xs) ≡ between i j xs
between_in_front xs n i j within =
    between_is (take n xs) i j ∙ ap (drop i) (take-take j n xs within) ∙ sym (between_is xs i j)
