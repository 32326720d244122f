-- Which cells of a row raise a neighbour in a row that touches it, or in their own.
use Rattle.std.proofs.Common.{◌≡◌, ℕ, ◌+◌, ◌-◌, ◌<◌, ◌⊎◌, Bool, true, false, List, length, get_or, take, min, refl}
use Rattle.std.proofs.Common.{subst, inl, inr, arith}
use Rattle.std.proofs.lemmas.Bool.{cases_lt, cases_eq}
use Rattle.std.specs.List.{between}
use Rattle.grid_core.specs.declared.conn.Conn.{Conn}
use Rattle.grid_core.specs.declared.conn.Conn.TheVariants.{Four, Eight}
use Rattle.row_scans.specs.Rows.{AreAside, AreBeside, AreRows, AreRowsAt, RaisesStraight, RaisesTo, HaveJoined}
use Rattle.row_scans.proofs.RowPairs.{AreParts, left_parts, right_parts}
use Rattle.row_scans.proofs.Joining.{raises_along, raises_in_part, joined_same, joined_both}
use Rattle.row_scans.proofs.Joining.{joined_stopped}

-- ---- columns

module _ {first : ℕ} {from mask to : List ℕ} (cell : ℕ) where
  pub straight_beside_four : RaisesStraight first from mask to cell → RaisesTo (AreBeside Four) first from mask to cell
  straight_beside_four raises = record {
    column = raises.column;
    other = raises.column;
    within = raises.within;
    other_within = raises.within;
    beside = refl;
    lower = raises.lower;
    place = raises.place;
  }

  pub beside_four_straight : RaisesTo (AreBeside Four) first from mask to cell → RaisesStraight first from mask to cell
  beside_four_straight raises =
      let same : raises.column ≡ raises.other = raises.beside in
      record {
        column = raises.column;
        within = raises.within;
        lower = rw (← same) at raises.lower;
        place = raises.place;
      }

  pub straight_beside_eight : RaisesStraight first from mask to cell
      → RaisesTo (AreBeside Eight) first from mask to cell
  straight_beside_eight raises = record {
    column = raises.column;
    other = raises.column;
    within = raises.within;
    other_within = raises.within;
    beside = omega arith;
    lower = raises.lower;
    place = raises.place;
  }

  pub aside_beside_eight : RaisesTo AreAside first from mask to cell
      → RaisesTo (AreBeside Eight) first from mask to cell
  aside_beside_eight raises = record {
    column = raises.column;
    other = raises.other;
    within = raises.within;
    other_within = raises.other_within;
    beside = omega (arith, raises.beside);
    lower = raises.lower;
    place = raises.place;
  }

  pub beside_eight_cases : RaisesTo (AreBeside Eight) first from mask to cell
      → RaisesStraight first from mask to cell ⊎ RaisesTo AreAside first from mask to cell
  beside_eight_cases raises = elim (cases_eq raises.column raises.other) [
    | inl same ↦
        inl (record {
          column = raises.column;
          within = raises.within;
          lower = rw (← same) at raises.lower;
          place = raises.place;
        })
    | inr apart ↦
        inr (record {
          column = raises.column;
          other = raises.other;
          within = raises.within;
          other_within = raises.other_within;
          beside = omega (arith, raises.beside);
          lower = raises.lower;
          place = raises.place;
        })
  ]

-- ---- columns that are next to one another

-- a pixel of a part that raises one of the other row's part raises one in the next column, where one part begins at the
-- first column, and the other at the second
part_aside : {first base : ℕ} {from mask to f m t : List ℕ} {i j n cell : ℕ} → AreParts from mask to f m t i j n
    → RaisesStraight base f m t cell → base ≡ first + i → i + j ≡ 1 → n + 1 ≡ length to
    → RaisesTo AreAside first from mask to cell
part_aside {i = i} {j} parts raises place sides ends =
    let along = raises_along parts raises in
    record {
      column = i + along.step;
      other = j + along.step;
      within = omega (arith, along.within);
      other_within = omega (arith, along.within);
      beside = omega arith;
      lower = along.lower;
      place = omega (arith, along.place);
    }

-- and the other way round
aside_part : {first base : ℕ} {from mask to f m t : List ℕ} {i j n cell : ℕ} → AreParts from mask to f m t i j n
    → (raises : RaisesTo AreAside first from mask to cell) → raises.column + j ≡ raises.other + i
    → base ≡ first + i → i + j ≡ 1 → n + 1 ≡ length to → RaisesStraight base f m t cell
aside_part {from = from} {mask} {to} {i = i} {j} parts raises same place sides ends =
    let s = raises.column - i in
    let column : raises.column ≡ i + s = omega (arith, same) in
    let other : raises.other ≡ j + s = omega (arith, same) in
    raises_in_part parts (record {
      step = s;
      within = omega (arith, same, raises.within, raises.other_within);
      lower =
          subst (λ b. get_or to b 0 < min (get_or from (i + s) 0) (get_or mask b 0)) other
          (subst (λ a. get_or to raises.other 0 < min (get_or from a 0) (get_or mask raises.other 0)) column
          raises.lower);
      place = omega (arith, raises.place, column);
    })

module _ {first : ℕ} {from mask to : List ℕ} (some : 0 < length to) (rows : AreRowsAt first from mask to) where
  same_rows : AreRows from mask to
  same_rows = record { from = rows.from; mask = rows.mask }

  to_right : (i : ℕ)
      → RaisesStraight first (take (length to - 1) from) (between 1 (length mask) mask) (between 1 (length to) to) i
      → RaisesTo AreAside first from mask to i
  to_right i raises =
      part_aside (right_parts (length to - 1) same_rows (omega arith)) raises (omega arith) (omega arith) (omega arith)

  pub aslant_joined : {room : Bool} {old mid new : List ℕ}
      → HaveJoined
      (RaisesStraight first (take (length to - 1) from) (between 1 (length mask) mask) (between 1 (length to) to)) true
      old mid
      → HaveJoined
      (RaisesStraight (first + 1) (between 1 (length from) from) (take (length to - 1) mask) (take (length to - 1) to))
      room mid new
      → HaveJoined (RaisesTo AreAside first from mask to) room old new
  aslant_joined right left =
      let n = length to - 1 in
      let lefts = left_parts n same_rows (omega arith) in
      joined_same (joined_both right left)
      (λ i raises. elim raises [
        | inl r ↦ to_right i r
        | inr l ↦ part_aside lefts l (omega arith) (omega arith) (omega arith)
      ])
      (λ i raises. elim (cases_lt raises.column raises.other) [
        | inl less ↦
            inl (aside_part (right_parts n same_rows (omega arith)) raises (omega (arith, raises.beside)) (omega arith)
            (omega arith) (omega arith))
        | inr more ↦
            inr (aside_part lefts raises (omega (arith, raises.beside)) (omega arith) (omega arith) (omega arith))
      ])

  pub aslant_stopped : {old new : List ℕ}
      → HaveJoined
      (RaisesStraight first (take (length to - 1) from) (between 1 (length mask) mask) (between 1 (length to) to)) false
      old new
      → HaveJoined (RaisesTo AreAside first from mask to) false old new
  aslant_stopped right = joined_stopped right to_right

-- ---- what joined the queue

straight_beside : (conn : Conn) {first : ℕ} {from mask to : List ℕ} (cell : ℕ)
    → RaisesStraight first from mask to cell
    → RaisesTo (AreBeside conn) first from mask to cell
straight_beside Four cell raises = straight_beside_four cell raises
straight_beside Eight cell raises = straight_beside_eight cell raises

pub straight_stopped : (conn : Conn) {first : ℕ} {from mask to old new : List ℕ}
    → HaveJoined (RaisesStraight first from mask to) false old new
    → HaveJoined (RaisesTo (AreBeside conn) first from mask to) false old new
straight_stopped conn straight = joined_stopped straight (straight_beside conn)

pub four_joined : {first : ℕ} {from mask to old new : List ℕ}
    → HaveJoined (RaisesStraight first from mask to) true old new
    → HaveJoined (RaisesTo (AreBeside Four) first from mask to) true old new
four_joined straight = joined_same straight straight_beside_four beside_four_straight

pub eight_joined : {first : ℕ} {from mask to : List ℕ} {room : Bool} {old mid new : List ℕ}
    → HaveJoined (RaisesStraight first from mask to) true old mid
    → HaveJoined (RaisesTo AreAside first from mask to) room mid new
    → HaveJoined (RaisesTo (AreBeside Eight) first from mask to) room old new
eight_joined straight aslant =
    joined_same (joined_both straight aslant)
    (λ i raises. elim raises [
      | inl s ↦ straight_beside_eight i s
      | inr a ↦ aside_beside_eight i a
    ]) beside_eight_cases
