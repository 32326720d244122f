-- A row that is raised along itself strip by strip, each strip beginning at the last pixel of the one before.
use Rattle.std.proofs.Common.{◌≡◌, ℕ, ◌+◌, ◌-◌, ◌<◌, ◌≤◌, List, length, get_or, min, max, sym, subst, ◌∙◌, arith, inl}
use Rattle.std.proofs.Common.{inr}
use Rattle.std.proofs.lemmas.Bool.{cases_lt}
use Rattle.std.specs.List.{between}
use Rattle.row_scans.specs.RowRaises.{IsRaisedFromLeft, IsRaisedFromRight}
use Rattle.row_scans.proofs.{RowPairs.IsPart, RowPairs.part_between, Replacing.IsReplaced, Replacing.replaced_mid}
use borrow.Rule.Slice.PartMut.{put_mid}

-- the pixels up to `end` are raised from the left, and the others are as they were
pub record IsDoneFromLeft (mask before : List ℕ) (end : ℕ) (row : List ℕ) : Type 0 where
  pub long : length row ≡ length before
  pub first : get_or row 0 0 ≡ get_or before 0 0
  pub done : (k : ℕ) → k + 1 < end
      → get_or row (k + 1) 0 ≡ max (get_or before (k + 1) 0) (min (get_or row k 0) (get_or mask (k + 1) 0))
  pub rest : (k : ℕ) → end ≤ k → get_or row k 0 ≡ get_or before k 0

-- the pixels from the last before `end` on are raised from the right, and the others are as they were
pub record IsDoneFromRight (mask before : List ℕ) (end : ℕ) (row : List ℕ) : Type 0 where
  pub long : length row ≡ length before
  pub last : (k : ℕ) → k + 1 ≡ length before → get_or row k 0 ≡ get_or before k 0
  pub done : (k : ℕ) → end ≤ k + 1 → k + 1 < length before
      → get_or row k 0 ≡ max (get_or before k 0) (min (get_or row (k + 1) 0) (get_or mask k 0))
  pub rest : (k : ℕ) → k + 1 < end → get_or row k 0 ≡ get_or before k 0

module _ (mask before row part : List ℕ) (start end : ℕ) (same : length mask ≡ length before) (grows : start < end)
    (within : end ≤ length before) (long_row : length row ≡ length before) (long_part : length part ≡ end - start)
  where
    -- the row with the strip in its place
    abbrev after : List ℕ
    after = put_mid start (end - start) row part

    replaced : IsReplaced start part row after
    replaced = replaced_mid start (end - start) part row long_part (omega (arith, within, long_row, grows))

    from_row : IsPart (between start end row) row start (end - start)
    from_row = part_between row start end (end - start) (omega (arith, grows)) (omega (arith, within, long_row))

    from_mask : IsPart (between start end mask) mask start (end - start)
    from_mask = part_between mask start end (end - start) (omega (arith, grows)) (omega (arith, within, same))

    module _ (sofar : IsDoneFromLeft mask before (start + 1) row)
        (raised : IsRaisedFromLeft (between start end mask) (between start end row) part) where
      stays : (i : ℕ) → i ≤ start → get_or after i 0 ≡ get_or row i 0
      stays i le = elim (cases_lt i start) [
        | inl less ↦ replaced.ahead i less
        | inr more ↦ let here : i ≡ start + 0 = omega arith in
            rw here (replaced.inside 0 (omega (arith, grows, long_part)) ∙ raised.first
            ∙ from_row.reads 0 (omega (arith, grows)))
      ]

      step : (j : ℕ) → j + 1 < end - start
          → get_or after (start + j + 1) 0
          ≡ max (get_or before (start + j + 1) 0) (min (get_or after (start + j) 0) (get_or mask (start + j + 1) 0))
      step j less =
          let next : start + j + 1 ≡ start + (j + 1) = omega arith in
          let here = replaced.inside (j + 1) (omega (arith, less, long_part)) in
          let back = replaced.inside j (omega (arith, less, long_part)) in
          let old = sofar.rest (start + (j + 1)) (omega arith) in
          rw (next, here, back, sym old, sym (from_row.reads (j + 1) less), sym (from_mask.reads (j + 1) less))
          (raised.raised j (omega (arith, less, from_row.long)))

      strip_from_left : IsDoneFromLeft mask before end after
      strip_from_left = record {
        long = replaced.long ∙ sofar.long;
        first = stays 0 (omega arith) ∙ sofar.first;
        done = λ k less. elim (cases_lt k start) [
          | inl early ↦ rw (stays (k + 1) (omega arith), stays k (omega arith)) (sofar.done k (omega arith))
          | inr late ↦ let here : start + (k - start) ≡ k = omega arith in
              subst (λ n. get_or after (n + 1) 0
              ≡ max (get_or before (n + 1) 0) (min (get_or after n 0) (get_or mask (n + 1) 0))) here
              (step (k - start) (omega (arith, less)))
        ];
        rest = λ k past.
            replaced.behind k (omega (arith, past, grows, long_part)) ∙ sofar.rest k (omega (arith, past, grows));
      }

    module _ (sofar : IsDoneFromRight mask before end row)
        (raised : IsRaisedFromRight (between start end mask) (between start end row) part) where
      stands : (i : ℕ) → end ≤ i + 1 → get_or after i 0 ≡ get_or row i 0
      stands i le = elim (cases_lt i end) [
        | inl less ↦ let last : ℕ = end - start - 1 in
            let here : i ≡ start + last = omega (arith, grows) in
            rw here (replaced.inside last (omega (arith, grows, long_part))
            ∙ raised.last last (omega (arith, grows, from_row.long)) ∙ from_row.reads last (omega (arith, grows)))
        | inr more ↦ replaced.behind i (omega (arith, more, grows, long_part))
      ]

      back : (j : ℕ) → j + 1 < end - start
          → get_or after (start + j) 0
          ≡ max (get_or before (start + j) 0) (min (get_or after (start + j + 1) 0) (get_or mask (start + j) 0))
      back j less =
          let next : start + j + 1 ≡ start + (j + 1) = omega arith in
          let here = replaced.inside j (omega (arith, less, long_part)) in
          let beside = replaced.inside (j + 1) (omega (arith, less, long_part)) in
          let old = sofar.rest (start + j) (omega (arith, less)) in
          rw (next, here, beside, sym old, sym (from_row.reads j (omega arith)), sym (from_mask.reads j (omega arith)))
          (raised.raised j (omega (arith, less, from_row.long)))

      strip_from_right : IsDoneFromRight mask before (start + 1) after
      strip_from_right = record {
        long = replaced.long ∙ sofar.long;
        last = λ k at. stands k (omega (arith, at, within)) ∙ sofar.last k at;
        done = λ k from less. elim (cases_lt (k + 1) end) [
          | inl inner ↦ let here : start + (k - start) ≡ k = omega arith in
              subst (λ n. get_or after n 0
              ≡ max (get_or before n 0) (min (get_or after (n + 1) 0) (get_or mask n 0))) here
              (back (k - start) (omega (arith, inner)))
          | inr outer ↦ rw (stands k (omega arith), stands (k + 1) (omega arith)) (sofar.done k (omega arith) less)
        ];
        rest = λ k less. replaced.ahead k (omega arith) ∙ sofar.rest k (omega (arith, less, grows));
      }

-- the pixels of a row up to `end` are done from the left, and then those from the last of them up to `next`, too
pub next_from_left : {mask before row part : List ℕ} {end : ℕ} (next : ℕ) → length mask ≡ length before → 0 < end
    → end < next → next ≤ length before → IsDoneFromLeft mask before end row
    → IsRaisedFromLeft (between (end - 1) next mask) (between (end - 1) next row) part
    → IsDoneFromLeft mask before next (put_mid (end - 1) (next - (end - 1)) row part)
next_from_left {mask} {before} {row} {part} {end} next same some grows within sofar raised =
    let from : end ≡ end - 1 + 1 = omega (arith, some) in
    let strip = part_between row (end - 1) next (next - (end - 1)) (omega (arith, grows)) (omega (
      arith,
      within,
      sofar.long,
    )) in
    strip_from_left mask before row part (end - 1) next same (omega (arith, grows)) within sofar.long
    (omega (arith, raised.long, strip.long)) (subst (λ n. IsDoneFromLeft mask before n row) from sofar) raised

-- the pixels of a row from the last before `end` on are done from the right, and then those from `start` on, too
pub next_from_right : {mask before row part : List ℕ} {end : ℕ} (start : ℕ) → length mask ≡ length before → start < end
    → end ≤ length before → IsDoneFromRight mask before end row
    → IsRaisedFromRight (between start end mask) (between start end row) part
    → IsDoneFromRight mask before (start + 1) (put_mid start (end - start) row part)
next_from_right {mask} {before} {row} {part} {end} start same grows within sofar raised =
    let strip = part_between row start end (end - start) (omega (arith, grows)) (omega (arith, within, sofar.long)) in
    strip_from_right mask before row part start end same grows within sofar.long
    (omega (arith, raised.long, strip.long)) sofar raised
