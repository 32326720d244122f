-- Strips of sixteen pixels that are raised by looking twice as far again and again.
use Rattle.std.proofs.Common.{◌≡◌, ℕ, zero, suc, ◌+◌, ◌-◌, ◌<◌, ◌≤◌, List, length, get_or, min, max, subst, inl}
use Rattle.std.proofs.Common.{inr, sym, refl, arith}
use Rattle.std.proofs.lemmas.Bool.{cases_lt}
use Rattle.row_scans.specs.RowRaises.{IsRaisedFromLeft, IsRaisedFromRight, IsReachAt, IsTwiceFromLeft, IsLetIn}
use Rattle.row_scans.specs.RowRaises.{IsTwiceFromRight}
use Rattle.row_scans.specs.declared.row_raises.Reach.{Reach}

-- the values to which a row is raised from the left, pixel by pixel
left_value : (mask row : List ℕ) → ℕ → ℕ
left_value mask row zero = get_or row 0 0
left_value mask row (suc k) = max (get_or row (suc k) 0) (min (left_value mask row k) (get_or mask (suc k) 0))

-- each value from `start` on is what its pixel reaches within so many pixels to its left, or what lets in the value
-- before these: that of a pixel of the strip, or the level from beyond it
record ReachesLeft (by start level : ℕ) (reach : Reach) (value : ℕ → ℕ) : Type 0 where
  near : (i : ℕ) → i < by → i < 16
      → value (start + i) ≡ max (get_or reach.levels i 0) (min level (get_or reach.caps i 0))
  far : (i : ℕ) → by ≤ i → i < 16
      → value (start + i) ≡ max (get_or reach.levels i 0) (min (value (start + (i - by))) (get_or reach.caps i 0))

twice_left : {by start level : ℕ} {before after : Reach} {value : ℕ → ℕ} → IsTwiceFromLeft by before after
    → ReachesLeft by start level before value → ReachesLeft (by + by) start level after value
twice_left {by} {start} {level} {before} {after} {value} twice reaches = record {
  near = λ i less within. elim (cases_lt i by) [
    | inl inner ↦ omega (arith, reaches.near i inner within, twice.kept i inner within, twice.stays i inner within)
    | inr outer ↦
        omega (
          arith,
          reaches.far i outer within,
          reaches.near (i - by) (omega (arith, outer, less)) (omega (arith, within)),
          twice.levels i outer within,
          twice.caps i outer within,
        )
  ];
  far = λ i from within.
      let here : i - by - by ≡ i - (by + by) = omega (arith, from) in
      subst (λ n. value (start + i)
      ≡ max (get_or after.levels i 0) (min (value (start + n)) (get_or after.caps i 0))) here
      (omega (
        arith,
        reaches.far i (omega (arith, from)) within,
        reaches.far (i - by) (omega (arith, from)) (omega (arith, within)),
        twice.levels i (omega (arith, from)) within,
        twice.caps i (omega (arith, from)) within,
      ));
}

first_left : (mask row : List ℕ) → left_value mask row 0 ≡ get_or row 0 0
unfolding left_value
first_left mask row = refl

next_left : (mask row : List ℕ) (k n : ℕ) → suc k ≡ n
    → left_value mask row n ≡ max (get_or row n 0) (min (left_value mask row k) (get_or mask n 0))
unfolding left_value
next_left mask row k n at =
    subst (λ m. left_value mask row m ≡ max (get_or row m 0) (min (left_value mask row k) (get_or mask m 0))) at refl

-- the first two values of a row
begin_left : (mask row : List ℕ) (k : ℕ) → k < 2
    → left_value mask row k ≡ max (get_or row k 0) (min (get_or row 0 0) (get_or mask k 0))
begin_left mask row zero few = omega (arith, first_left mask row)
begin_left mask row (suc zero) few = omega (arith, first_left mask row, next_left mask row 0 1 refl)
begin_left mask row (suc (suc k)) few = omega (arith, few)

-- before any look, in a strip that begins a row, or begins at its second pixel
one_left : {mask row : List ℕ} {reach : Reach} {start : ℕ} → start < 2 → IsReachAt start mask row reach
    → ReachesLeft 1 start (get_or row 0 0) reach (left_value mask row)
one_left {mask} {row} {reach} {start} few at = record {
  near = λ i less within.
      omega (
        arith,
        begin_left mask row (start + i) (omega (arith, less, few)),
        at.levels i within,
        at.caps i within,
      );
  far = λ i from within.
      omega (
        arith,
        next_left mask row (start + (i - 1)) (start + i) (omega (arith, from)),
        at.levels i within,
        at.caps i within,
      );
}

-- the strip after it looked as far as it is long, four times twice as far
pub raised_left : {mask row after : List ℕ} {start : ℕ} {one two four eight all : Reach} → start + 16 ≡ length row
    → start < 2 → IsReachAt start mask row one → IsTwiceFromLeft 1 one two → IsTwiceFromLeft 2 two four
    → IsTwiceFromLeft 4 four eight → IsTwiceFromLeft 8 eight all → IsLetIn start (get_or row 0 0) all row after
    → IsRaisedFromLeft mask row after
raised_left {mask} {row} {after} {start} long few at first second third fourth set =
    let value = left_value mask row in
    let reaches = twice_left fourth (twice_left third (twice_left second (twice_left first (one_left few at)))) in
    let same : (k : ℕ) → k < length row → get_or after k 0 ≡ value k =
    λ k less. elim (cases_lt k start) [
      | inl ahead ↦
          let none : 0 ≡ k = omega (arith, ahead, few) in
          subst (λ n. get_or after n 0 ≡ value n) none
          (omega (arith, set.ahead 0 (omega (arith, ahead)), first_left mask row))
      | inr inside ↦
          let here : start + (k - start) ≡ k = omega (arith, inside) in
          subst (λ n. get_or after n 0 ≡ value n) here (omega (
            arith,
            set.inside (k - start) (omega (arith, inside, less, long)),
            reaches.near (k - start) (omega (arith, inside, less, long)) (omega (arith, inside, less, long)),
          ))
    ] in
    record {
      long = set.long;
      first = omega (arith, same 0 (omega (arith, long)), first_left mask row);
      raised = λ k less.
          omega (
            arith,
            same (k + 1) less,
            same k (omega (arith, less)),
            next_left mask row k (k + 1) (omega arith),
          );
    }

-- the values to which a row of so many pixels and one is raised from the right, counted from its last
right_value : (mask row : List ℕ) (last : ℕ) → ℕ → ℕ
right_value mask row last zero = get_or row last 0
right_value mask row last (suc k) =
    max (get_or row (last - suc k) 0) (min (right_value mask row last k) (get_or mask (last - suc k) 0))

next_right : (mask row : List ℕ) (last k n : ℕ) → suc k ≡ n → right_value mask row last n
    ≡ max (get_or row (last - n) 0) (min (right_value mask row last k) (get_or mask (last - n) 0))
unfolding right_value
next_right mask row last k n at =
    subst (λ m. right_value mask row last m
    ≡ max (get_or row (last - m) 0) (min (right_value mask row last k) (get_or mask (last - m) 0))) at refl

-- each value of a strip is what its pixel reaches within so many pixels to its right, or what lets in the value behind
-- these
record ReachesRight (by level : ℕ) (reach : Reach) (value : ℕ → ℕ) : Type 0 where
  near : (i : ℕ) → 16 ≤ i + by → i < 16 → value i ≡ max (get_or reach.levels i 0) (min level (get_or reach.caps i 0))
  far : (i : ℕ) → i + by < 16
      → value i ≡ max (get_or reach.levels i 0) (min (value (i + by)) (get_or reach.caps i 0))

twice_right : {by level : ℕ} {before after : Reach} {value : ℕ → ℕ} → IsTwiceFromRight by before after
    → ReachesRight by level before value → ReachesRight (by + by) level after value
twice_right {by} {level} {before} {after} {value} twice reaches = record {
  near = λ i past within. elim (cases_lt (i + by) 16) [
    | inr outer ↦ omega (arith, reaches.near i outer within, twice.kept i outer within, twice.stays i outer within)
    | inl inner ↦
        omega (
          arith,
          reaches.far i inner,
          reaches.near (i + by) (omega (arith, past)) inner,
          twice.levels i inner,
          twice.caps i inner,
        )
  ];
  far = λ i less.
      let here : i + by + by ≡ i + (by + by) = omega arith in
      subst (λ n. value i ≡ max (get_or after.levels i 0) (min (value n) (get_or after.caps i 0))) here
      (omega (
        arith,
        reaches.far i (omega (arith, less)),
        reaches.far (i + by) (omega (arith, less)),
        twice.levels i (omega (arith, less)),
        twice.caps i (omega (arith, less)),
      ));
}

-- the value of a pixel of a row, raised from the right
abbrev at_right : (mask row : List ℕ) (last : ℕ) → ℕ → ℕ
at_right mask row last i = right_value mask row last (last - i)

before_last : (mask row : List ℕ) (last i : ℕ) → i < last → at_right mask row last i
    ≡ max (get_or row i 0) (min (at_right mask row last (i + 1)) (get_or mask i 0))
before_last mask row last i less =
    let back : last - (last - i) ≡ i = omega (arith, less) in
    subst (λ m. at_right mask row last i
    ≡ max (get_or row m 0) (min (at_right mask row last (i + 1)) (get_or mask m 0))) back
    (next_right mask row last (last - (i + 1)) (last - i) (omega (arith, less)))

end_right : (mask row : List ℕ) (last i : ℕ) → i ≡ last → at_right mask row last i ≡ get_or row last 0
unfolding right_value
end_right mask row last i at =
    let none : 0 ≡ last - i = omega (arith, at) in
    subst (λ m. right_value mask row last m ≡ get_or row last 0) none refl

-- what a strip that begins a row reads
at_start : {mask row : List ℕ} {reach : Reach} → IsReachAt 0 mask row reach → (i : ℕ) → i < 16
    → (get_or reach.levels i 0 ≡ get_or row i 0) × (get_or reach.caps i 0 ≡ get_or mask i 0)
at_start {mask} {row} {reach} at i within =
    let here : 0 + i ≡ i = omega arith in
    subst (λ n. (get_or reach.levels i 0 ≡ get_or row n 0) × (get_or reach.caps i 0 ≡ get_or mask n 0)) here
    (at.levels i within, at.caps i within)

-- before any look, in a strip that ends a row, or ends before its last pixel
one_right : {mask row : List ℕ} {reach : Reach} {last : ℕ} → 15 ≤ last → last ≤ 16 → IsReachAt 0 mask row reach
    → ReachesRight 1 (get_or row last 0) reach (at_right mask row last)
one_right {mask} {row} {reach} {last} some few at = record {
  near = λ i past within. elim (cases_lt i last) [
    | inl less ↦
        omega (
          arith,
          before_last mask row last i less,
          end_right mask row last (i + 1) (omega (arith, past, less, few)),
          at_start at i within,
        )
    | inr end ↦
        let here : last ≡ i = omega (arith, end, some, within) in
        let itself : get_or row last 0 ≡ get_or row i 0 = subst (λ n. get_or row last 0 ≡ get_or row n 0) here refl in
        omega (
          arith,
          end_right mask row last i (sym here),
          itself,
          at_start at i within,
        )
  ];
  far = λ i less.
      omega (
        arith,
        before_last mask row last i (omega (arith, less, some)),
        at_start at i (omega (arith, less)),
      );
}

pub raised_right : {mask row after : List ℕ} {one two four eight all : Reach} (last : ℕ) → last + 1 ≡ length row
    → 15 ≤ last → last ≤ 16 → IsReachAt 0 mask row one → IsTwiceFromRight 1 one two → IsTwiceFromRight 2 two four
    → IsTwiceFromRight 4 four eight → IsTwiceFromRight 8 eight all → IsLetIn 0 (get_or row last 0) all row after
    → IsRaisedFromRight mask row after
raised_right {mask} {row} {after} {all = all} last long some few at first second third fourth set =
    let value = at_right mask row last in
    let reaches =
    twice_right fourth (twice_right third (twice_right second (twice_right first (one_right some few at)))) in
    let same : (k : ℕ) → k < length row → get_or after k 0 ≡ value k =
    λ k less. elim (cases_lt k 16) [
      | inl inside ↦
          let here : 0 + k ≡ k = omega arith in
          let risen = subst (λ n. get_or after n 0
          ≡ max (get_or all.levels k 0) (min (get_or row last 0) (get_or all.caps k 0))) here (set.inside k inside) in
          omega (arith, risen, reaches.near k (omega arith) inside)
      | inr behind ↦
          let here : k ≡ last = omega (arith, behind, less, long, few) in
          let itself : get_or row k 0 ≡ get_or row last 0 = subst (λ n. get_or row k 0 ≡ get_or row n 0) here refl in
          omega (arith, set.behind k behind, end_right mask row last k here, itself)
    ] in
    record {
      long = set.long;
      last = λ k end.
          let here : k ≡ last = omega (arith, end, long) in
          let itself : get_or row k 0 ≡ get_or row last 0 = subst (λ n. get_or row k 0 ≡ get_or row n 0) here refl in
          omega (arith, same k (omega (arith, end)), end_right mask row last k here, itself);
      raised = λ k less.
          omega (
            arith,
            same k (omega (arith, less)),
            same (k + 1) less,
            before_last mask row last k (omega (arith, less, long)),
          );
    }
