-- Rows that are raised, by another row or along themselves.
use Rattle.std.proofs.Common.{◌≡◌, ℕ, zero, suc, ◌+◌, ◌-◌, ◌<◌, ◌≤◌, List, ◌++◌, length, get_or, take, drop, min}
use Rattle.std.proofs.Common.{max, subst, inl, inr, arith}
use Rattle.std.proofs.{lemmas.Bool.cases_lt, lemmas.List.length-take-le}
use Rattle.std.specs.List.{between}
use Rattle.grid_core.specs.declared.conn.Conn.{Conn}
use borrow.Rule.Slice.PartMut.{put_mid}
use Rattle.row_scans.specs.Rows.{AreAside, AreBeside, AreRows, IsClosedTo}
use Rattle.row_scans.specs.RowRaises.{IsRaisedStraight, IsRaisedBy, IsRaisedFromLeft, IsRaisedFromRight, AreCellsRaised}
use Rattle.row_scans.proofs.RowPairs.{AreParts, closed_aside, left_parts, right_parts}
use Rattle.row_scans.proofs.Replacing.{IsReplaced, replaced_front, replaced_mid, replaced_read}

-- a part of a row is raised by a part of another
pub part_value : {by mask xs ys b m part new : List ℕ} {i j n : ℕ} → AreParts by mask xs b m part j i n
    → IsRaisedStraight m b part new → IsReplaced i new xs ys → (s : ℕ) → s < n
    → get_or ys (i + s) 0 ≡ max (get_or xs (i + s) 0) (min (get_or by (j + s) 0) (get_or mask (i + s) 0))
part_value parts raised replaced s less =
    omega (
      arith,
      replaced.inside s (omega (arith, raised.long, parts.to.long)),
      raised.raised s (omega (arith, parts.to.long)),
      parts.to.reads s less,
      parts.from.reads s less,
      parts.mask.reads s less,
    )

-- and so is then the whole row
pub part_raised : {AreThese : ℕ → ℕ → Type 0} {by mask xs ys b m part new : List ℕ} {i j n : ℕ}
    → AreParts by mask xs b m part j i n → IsRaisedStraight m b part new → IsReplaced i new xs ys
    → ((s : ℕ) → s < n → AreThese (i + s) (j + s)) → length by ≡ length xs → j + n ≤ length by
    → IsRaisedBy AreThese mask by xs ys
part_raised {AreThese} {by} {mask} {xs} {ys} {new = new} {i} {j} {n} parts raised replaced these same_by within =
    let long : length new ≡ n = omega (arith, raised.long, parts.to.long) in
    let here = part_value parts raised replaced in
    record {
      long = replaced.long;
      rises = λ k less. elim (cases_lt k i) [
        | inl ahead ↦ omega (arith, replaced.ahead k ahead)
        | inr from ↦ elim (cases_lt k (i + n)) [
          | inr behind ↦ omega (arith, replaced.behind k (omega arith))
          | inl inside ↦
              let place : i + (k - i) ≡ k = omega arith in
              subst (λ p. get_or xs p 0 ≤ get_or ys p 0) place (omega (arith, here (k - i) (omega arith)))
        ]
      ];
      raised = λ k less. elim (cases_lt k i) [
        | inl ahead ↦ inl (replaced.ahead k ahead)
        | inr from ↦ elim (cases_lt k (i + n)) [
          | inr behind ↦ inl (replaced.behind k (omega arith))
          | inl inside ↦
              let s = k - i in
              let place : i + s ≡ k = omega arith in
              let new_value = here s (omega arith) in
              elim (cases_lt (get_or xs (i + s) 0) (min (get_or by (j + s) 0) (get_or mask (i + s) 0))) [
                | inr kept ↦
                    let same : get_or ys (i + s) 0 ≡ get_or xs (i + s) 0 = omega arith in
                    inl (subst (λ p. get_or ys p 0 ≡ get_or xs p 0) place same)
                | inl rose ↦
                    let less_j : j + s < length xs = omega arith in
                    let under : get_or ys (i + s) 0 ≤ min (get_or by (j + s) 0) (get_or mask (i + s) 0) = omega arith in
                    inr (
                      j + s,
                      less_j,
                      subst (λ p. AreThese p (j + s)) place (these s (omega arith)),
                      subst (λ p. get_or ys p 0 ≤ min (get_or by (j + s) 0) (get_or mask p 0)) place under,
                    )
              ]
        ]
      ];
    }

-- a row that is raised by another twice
pub raised_twice : {AreThese : ℕ → ℕ → Type 0} {mask by xs ys zs : List ℕ} → IsRaisedBy AreThese mask by xs ys
    → IsRaisedBy AreThese mask by ys zs → IsRaisedBy AreThese mask by xs zs
raised_twice first second = record {
  long = omega (arith, first.long, second.long);
  rises = λ k less. omega (arith, first.rises k less, second.rises k (omega (arith, first.long)));
  raised = λ k less. elim (second.raised k (omega (arith, first.long))) [
    | inl kept ↦ elim (first.raised k less) [
      | inl same ↦ inl (omega arith)
      | inr rose ↦ inr (rose.0, rose.1, rose.2, omega (arith, rose.3))
    ]
    | inr rose ↦ inr (rose.0, omega (arith, rose.1, first.long), rose.2, rose.3)
  ];
}

-- a row of which first all pixels but the first are raised by those to their left, and then all but the last by those
-- to their right
module _ {by mask xs : List ℕ} (n : ℕ) (rows : AreRows by mask xs) (ends : n + 1 ≡ length xs) where
  abbrev pub IsRaisedRight : List ℕ → Type 0
  IsRaisedRight = IsRaisedStraight (between 1 (length mask) mask) (take n by) (between 1 (length xs) xs)

  abbrev pub IsRaisedLeft : List ℕ → List ℕ → Type 0
  IsRaisedLeft ys = IsRaisedStraight (take n mask) (between 1 (length by) by) (take n ys)

  aside_raised : {ys zs right left : List ℕ} → IsRaisedRight right → IsRaisedLeft ys left
      → IsReplaced 1 right xs ys → IsReplaced 0 left ys zs
      → IsRaisedBy AreAside mask by xs zs × IsClosedTo AreAside by mask zs
  aside_raised {ys} {zs} righter lefter middle begin =
      let rights = right_parts n rows ends in
      let between : AreRows by mask ys = record {
        from = omega (arith, middle.long, rows.from);
        mask = omega (arith, middle.long, rows.mask);
      } in
      let lefts = left_parts n between (omega (arith, middle.long)) in
      let first : IsRaisedBy AreAside mask by xs ys =
      part_raised rights righter middle (λ s less. omega arith) rows.from (omega (arith, rows.from)) in
      let second : IsRaisedBy AreAside mask by ys zs =
      part_raised lefts lefter begin (λ s less. omega arith) between.from (omega (arith, rows.from)) in (
        raised_twice first second,
        closed_aside by mask zs
            (λ s less.
            omega (
              arith,
              part_value rights righter middle s (omega (arith, second.long, middle.long)),
              second.rises (1 + s) (omega (arith, second.long, middle.long)),
            ))
            (λ s less.
            omega (arith, part_value lefts lefter begin s (omega (arith, second.long, middle.long)))),
      )

  pub raised_aside : (right left : List ℕ) → IsRaisedRight right → IsRaisedLeft (put_mid 1 n xs right) left
      → IsRaisedBy AreAside mask by xs (left ++ drop n (put_mid 1 n xs right))
      × IsClosedTo AreAside by mask (left ++ drop n (put_mid 1 n xs right))
  raised_aside right left righter lefter =
      let size : length right ≡ n = omega (arith, righter.long, (right_parts n rows ends).to.long) in
      let middle = replaced_mid 1 n right xs size (omega arith) in
      let within : n ≤ length (put_mid 1 n xs right) = omega (arith, middle.long) in
      let front : length left ≡ n =
      omega (arith, lefter.long, length-take-le n (put_mid 1 n xs right) within) in
      aside_raised righter lefter middle (replaced_front n left (put_mid 1 n xs right) front within)

-- a row of a list of cells is raised by another
pub cells_raised : {conn : Conn} {mask row before after : List ℕ} {source target : ℕ} → length row ≡ length mask
    → IsReplaced target row before after
    → IsRaisedBy (AreBeside conn) mask (between source (source + length mask) before)
    (between target (target + length mask) before) row
    → IsClosedTo (AreBeside conn) (between source (source + length mask) before) mask row
    → AreCellsRaised conn mask source target before after
cells_raised {conn} {mask} {row} {before} {after} {source} {target} same replaced raised closed =
    let n = length mask in
    let read : row ≡ between target (target + n) after = replaced_read target (target + n) (omega arith) replaced in
    record {
      long = replaced.long;
      row =
          subst (λ new. IsRaisedBy (AreBeside conn) mask (between source (source + n) before)
          (between target (target + n) before) new) read raised;
      closed =
          subst (IsClosedTo (AreBeside conn) (between source (source + n) before) mask) read closed;
      ahead = replaced.ahead;
      behind = λ i past. replaced.behind i (omega arith);
    }

-- ---- no value falls

pub rises_from_left : {mask old new : List ℕ} → IsRaisedFromLeft mask old new → (x : ℕ) → x < length old
    → get_or old x 0 ≤ get_or new x 0
rises_from_left raised zero less = omega (arith, raised.first)
rises_from_left raised (suc x) less =
    let one : suc x ≡ x + 1 = omega arith in
    rw one (omega (arith, raised.raised x (omega arith)))

pub rises_from_right : {mask old new : List ℕ} → IsRaisedFromRight mask old new → (x : ℕ) → x < length old
    → get_or old x 0 ≤ get_or new x 0
rises_from_right {old} raised x less = elim (cases_lt (x + 1) (length old)) [
  | inl inner ↦ omega (arith, raised.raised x inner)
  | inr last ↦ omega (arith, raised.last x (omega arith))
]
