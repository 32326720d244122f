-- Pairs of pixels in one row or in two rows that touch.
use Rattle.std.proofs.Common.{◌≡◌, ℕ, ◌+◌, ◌-◌, ◌<◌, ◌≤◌, ◌↔◌, Bool, true, false, List, length, get_or, take, min, refl}
use Rattle.std.proofs.Common.{sym, ap, ◌∙◌, zero-add, inl, inr, below_more, arith, not, ◌||◌}
use Rattle.std.proofs.{lemmas.Bool.cases_lt, lemmas.List.get_or-take, lemmas.List.length-take-le}
use Rattle.std.proofs.{lemmas.List.Edits.length-between, lemmas.List.Edits.get_or-between}
use Rattle.std.specs.List.{between}
use Rattle.row_scans.specs.Rows.{AreAside, AreRows, IsClosedStraight, IsClosedTo}

-- a flag that tells whether one of the first places failed, after one more place
pub flag_more : (P : ℕ → Type 0) (i : ℕ) (flag test : Bool) → (flag ≡ false) ↔ ((k : ℕ) → k < i → P k)
    → (test ≡ false) ↔ P i
    → (flag || test ≡ false) ↔ ((k : ℕ) → k < i + 1 → P k)
flag_more P i true test before here = (
  λ e. absurd cc,
  λ all. absurd (let no : true ≡ false = before.1 (λ k h. all k (omega arith)) in cc),
)
flag_more P i false test before here = (
  λ e. below_more P i (before.0 refl) (here.0 e),
  λ all. here.1 (all i (omega arith)),
)

-- the same where two tests were made there
pub flag_more_by_two : (P Q : ℕ → Type 0) (i : ℕ) (flag first second : Bool)
    → (flag ≡ false) ↔ ((k : ℕ) → k < i → P k × Q k)
    → (first ≡ false) ↔ P i
    → (second ≡ false) ↔ Q i
    → ((flag || first) || second ≡ false) ↔ ((k : ℕ) → k < i + 1 → P k × Q k)
flag_more_by_two P Q i true first second before of_first of_second = (
  λ e. absurd cc,
  λ all. absurd (let no : true ≡ false = before.1 (λ k h. all k (omega arith)) in cc),
)
flag_more_by_two P Q i false true second before of_first of_second = (
  λ e. absurd cc,
  λ all. absurd (let no : true ≡ false = of_first.1 (all i (omega arith)).0 in cc),
)
flag_more_by_two P Q i false false second before of_first of_second = (
  λ e. below_more (λ k. P k × Q k) i (before.0 refl) (of_first.0 refl, of_second.0 e),
  λ all. of_second.1 (all i (omega arith)).1,
)

pub not_down : (flag : Bool) → (not flag ≡ true) ↔ (flag ≡ false)
not_down false = (λ e. refl, λ e. refl)
not_down true = (
  λ e. absurd (let no : false ≡ true = e in cc),
  λ e. absurd (let no : true ≡ false = e in cc),
)

-- the list stands in the other, from a place on
pub record IsPart (part whole : List ℕ) (start size : ℕ) : Type 0 where
  pub long : length part ≡ size
  pub reads : (k : ℕ) → k < size → get_or part k 0 ≡ get_or whole (start + k) 0

pub part_front : (xs : List ℕ) (n : ℕ) → n ≤ length xs → IsPart (take n xs) xs 0 n
part_front xs n within = record {
  long = length-take-le n xs within;
  reads = λ k less. get_or-take n xs k 0 less ∙ ap (λ i. get_or xs i 0) (sym (zero-add k));
}

pub part_between : (xs : List ℕ) (i j n : ℕ) → i + n ≡ j → j ≤ length xs → IsPart (between i j xs) xs i n
part_between xs i j n same within = record {
  long = omega (arith, length-between xs i j within);
  reads = λ k less. get_or-between xs i j k 0 (omega arith);
}

-- parts of three rows: of the first from column `i` on, and of the others from column `j` on
pub record AreParts (raising limits raised f m t : List ℕ) (i j n : ℕ) : Type 0 where
  pub from : IsPart f raising i n
  pub mask : IsPart m limits j n
  pub to : IsPart t raised j n

-- of the first row all pixels but the last, and of the others those in the next column to the right
pub right_parts : {from mask to : List ℕ} (n : ℕ) → AreRows from mask to → n + 1 ≡ length to
    → AreParts from mask to (take n from) (between 1 (length mask) mask) (between 1 (length to) to) 0 1 n
right_parts {from} {mask} {to} n rows ends = record {
  from = part_front from n (omega (arith, rows.from));
  mask = part_between mask 1 (length mask) n (omega (arith, rows.mask)) (omega arith);
  to = part_between to 1 (length to) n (omega arith) (omega arith);
}

-- of the first row all pixels but the first, and of the others those in the next column to the left
pub left_parts : {from mask to : List ℕ} (n : ℕ) → AreRows from mask to → n + 1 ≡ length to
    → AreParts from mask to (between 1 (length from) from) (take n mask) (take n to) 1 0 n
left_parts {from} {mask} {to} n rows ends = record {
  from = part_between from 1 (length from) n (omega (arith, rows.from)) (omega arith);
  mask = part_front mask n (omega (arith, rows.mask));
  to = part_front to n (omega arith);
}

-- the same columns of all of them
pub between_parts : {from mask to : List ℕ} (start end : ℕ) → AreRows from mask to → start ≤ end → end ≤ length to
    → AreParts from mask to (between start end from) (between start end mask) (between start end to) start start
    (end - start)
between_parts {from} {mask} {to} start end rows ordered within = record {
  from = part_between from start end (end - start) (omega arith) (omega (arith, rows.from));
  mask = part_between mask start end (end - start) (omega arith) (omega (arith, rows.mask));
  to = part_between to start end (end - start) (omega arith) within;
}

-- parts of rows, pair by pair
pub straight_parts : {from mask to f m t : List ℕ} {i j n : ℕ} → AreParts from mask to f m t i j n
    → IsClosedStraight f m t
    ↔ ((k : ℕ) → k < n → min (get_or from (i + k) 0) (get_or mask (j + k) 0) ≤ get_or to (j + k) 0)
straight_parts {n = n} parts = (
  λ closed k less.
      omega (
        arith,
        closed k (omega (arith, parts.to.long)),
        parts.from.reads k less,
        parts.mask.reads k less,
        parts.to.reads k less,
      ),
  λ closed k less.
      let within : k < n = omega (arith, parts.to.long) in
      omega (arith, closed k within, parts.from.reads k within, parts.mask.reads k within, parts.to.reads k within),
)

-- columns that are next to one another, from the left and from the right
pub closed_aside : (from mask to : List ℕ)
    → ((k : ℕ) → k < length to - 1 → min (get_or from (0 + k) 0) (get_or mask (1 + k) 0) ≤ get_or to (1 + k) 0)
    → ((k : ℕ) → k < length to - 1 → min (get_or from (1 + k) 0) (get_or mask (0 + k) 0) ≤ get_or to (0 + k) 0)
    → IsClosedTo AreAside from mask to
closed_aside from mask to right left a b less_a less_b aside = elim (cases_lt a b) [
  | inl less ↦ let next : b ≡ 1 + a = omega arith in rw next (simp zero-add at (right a (omega arith)))
  | inr more ↦ let next : a ≡ 1 + b = omega arith in rw next (simp zero-add at (left b (omega arith)))
]

module _ {from mask to : List ℕ} (some : 0 < length to) (rows : AreRows from mask to) where
  -- no pixel raises the one in the next column to the right
  abbrev pub IsClosedRight : Type 0
  IsClosedRight =
      IsClosedStraight (take (length to - 1) from) (between 1 (length mask) mask) (between 1 (length to) to)

  -- no pixel raises the one in the next column to the left
  abbrev pub IsClosedLeft : Type 0
  IsClosedLeft =
      IsClosedStraight (between 1 (length from) from) (take (length to - 1) mask) (take (length to - 1) to)

  -- both are what the columns that are next to one another say
  pub closed_aslant : IsClosedRight → IsClosedLeft → IsClosedTo AreAside from mask to
  closed_aslant right left =
      closed_aside from mask to ((straight_parts (right_parts (length to - 1) rows (omega arith))).0 right)
      ((straight_parts (left_parts (length to - 1) rows (omega arith))).0 left)

  pub aslant_right : IsClosedTo AreAside from mask to → IsClosedRight
  aslant_right closed =
      (straight_parts (right_parts (length to - 1) rows (omega arith))).1
      (λ k less. closed (0 + k) (1 + k) (omega arith) (omega arith) (omega arith))

  pub aslant_left : IsClosedTo AreAside from mask to → IsClosedLeft
  aslant_left closed =
      (straight_parts (left_parts (length to - 1) rows (omega arith))).1
      (λ k less. closed (1 + k) (0 + k) (omega arith) (omega arith) (omega arith))

-- ---- a row with itself, section by section, each beginning at the last pixel of the one before

-- no pixel of a row before `end` raises another of them
abbrev pub IsClosedUpTo : List ℕ → List ℕ → ℕ → Type 0
IsClosedUpTo row mask end =
    (a b : ℕ) → a < end → b < end → AreAside a b → min (get_or row a 0) (get_or mask b 0) ≤ get_or row b 0

pub closed_further : (row mask : List ℕ) (end next : ℕ) → 0 < end → end < next → next ≤ length row
    → length mask ≡ length row → IsClosedUpTo row mask end
    → IsClosedTo AreAside (between (end - 1) next row) (between (end - 1) next mask) (between (end - 1) next row)
    → IsClosedUpTo row mask next
closed_further row mask end next some grows within same before closed a b less_a less_b aside =
    let rows : AreRows row mask row = record { from = refl; mask = same } in
    let parts = between_parts (end - 1) next rows (omega (arith, grows)) within in
    elim (cases_lt (min a b) (end - 1)) [
      | inl early ↦ before a b (omega (arith, aside)) (omega (arith, aside)) aside
      | inr late ↦
          let start = end - 1 in
          let from : start + (a - start) ≡ a = omega (arith, late) in
          let to : start + (b - start) ≡ b = omega (arith, late) in
          omega (
            arith,
            closed (a - start) (b - start) (omega (arith, late, parts.to.long)) (omega (arith, late, parts.to.long))
                (omega (arith, late, aside)),
            parts.from.reads (a - start) (omega (arith, late)),
            parts.mask.reads (b - start) (omega (arith, late)),
            parts.to.reads (b - start) (omega (arith, late)),
            ap (λ i. get_or row i 0) from,
            ap (λ i. get_or mask i 0) to,
            ap (λ i. get_or row i 0) to,
          )
    ]
