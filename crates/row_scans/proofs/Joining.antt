-- Cells that join the queue.
use Rattle.std.proofs.Common.{◌≡◌, ℕ, ◌+◌, ◌-◌, ◌<◌, ◌≤◌, ◌⊎◌, Bool, true, false, List, length, get_or, min, refl}
use Rattle.std.proofs.Common.{subst, sym, inl, inr, arith, Contains}
use Rattle.std.proofs.lemmas.Bool.{cases_lt}
use Rattle.std.specs.List.{between}
use Rattle.row_scans.specs.Rows.{AreRows, RaisesStraight, HaveJoined, IsClosedStraight}
use Rattle.row_scans.specs.Waiting.{AreOneMore}
use Rattle.row_scans.proofs.RowPairs.{AreParts, between_parts}

-- ---- one after another

-- no such cell
pub none_joined : {IsSuch : ℕ → Type 0} {waiting : List ℕ} → ((i : ℕ) → IsSuch i → ⊥)
    → HaveJoined IsSuch true waiting waiting
none_joined none = record {
  kept = λ i h. h;
  each = λ i h. inl h;
  every = λ room i h. absurd (none i h);
  full = inl refl;
}

-- such cells are those cells
pub joined_same : {IsSuch AreThose : ℕ → Type 0} {room : Bool} {old new : List ℕ} → HaveJoined IsSuch room old new
    → ((i : ℕ) → IsSuch i → AreThose i) → ((i : ℕ) → AreThose i → IsSuch i) → HaveJoined AreThose room old new
joined_same joined to from = record {
  kept = joined.kept;
  each = λ i h. elim (joined.each i h) [ inl was ↦ inl was | inr such ↦ inr (to i such) ];
  every = λ all i h. joined.every all i (from i h);
  full = joined.full;
}

-- some have joined, and then others
pub joined_both : {IsFirst IsSecond : ℕ → Type 0} {room : Bool} {old mid new : List ℕ}
    → HaveJoined IsFirst true old mid → HaveJoined IsSecond room mid new
    → HaveJoined (λ i. IsFirst i ⊎ IsSecond i) room old new
joined_both first second = record {
  kept = λ i h. second.kept i (first.kept i h);
  each = λ i h. elim (second.each i h) [
    | inl was ↦ elim (first.each i was) [ inl before ↦ inl before | inr such ↦ inr (inl such) ]
    | inr such ↦ inr (inr such)
  ];
  every = λ all i h. elim h [
    | inl such ↦ second.kept i (first.every refl i such)
    | inr such ↦ second.every all i such
  ];
  full = second.full;
}

-- some could not join
pub joined_stopped : {IsSuch AreThose : ℕ → Type 0} {old new : List ℕ} → HaveJoined IsSuch false old new
    → ((i : ℕ) → IsSuch i → AreThose i) → HaveJoined AreThose false old new
joined_stopped joined to = record {
  kept = joined.kept;
  each = λ i h. elim (joined.each i h) [ inl was ↦ inl was | inr such ↦ inr (to i such) ];
  every = λ all. absurd (let no : false ≡ true = all in cc);
  full = joined.full;
}

-- ---- column by column

-- the first `count` columns are checked
pub record AreChecked (first : ℕ) (from mask to old : List ℕ) (count : ℕ) (now : List ℕ) : Type 0 where
  pub kept : (i : ℕ) → Contains old i → Contains now i
  pub each : (i : ℕ) → Contains now i → Contains old i ⊎ RaisesStraight first from mask to i
  pub every : (k : ℕ) → k < count → get_or to k 0 < min (get_or from k 0) (get_or mask k 0) → Contains now (first + k)

pub none_checked : {first : ℕ} {from mask to old : List ℕ} → AreChecked first from mask to old 0 old
none_checked = record {
  kept = λ i h. h;
  each = λ i h. inl h;
  every = λ k less. absurd (omega arith);
}

module _ {first : ℕ} {from mask to old : List ℕ} {count : ℕ} {now : List ℕ}
    (checked : AreChecked first from mask to old count now) where
  -- the next column's cell joins
  pub checked_joins : (next : List ℕ) → AreOneMore (first + count) now next
      → count < length to → get_or to count 0 < min (get_or from count 0) (get_or mask count 0)
      → AreChecked first from mask to old (count + 1) next
  checked_joins next one within lower = record {
    kept = λ i h. (one.each i).1 (inl (checked.kept i h));
    each = λ i h. elim ((one.each i).0 h) [
      | inl was ↦ checked.each i was
      | inr same ↦ inr (record { column = count; within = within; lower = lower; place = sym same })
    ];
    every = λ k less lower. elim (cases_lt k count) [
      | inl before ↦ (one.each (first + k)).1 (inl (checked.every k before lower))
      | inr last ↦ (one.each (first + k)).1 (inr (omega arith))
    ];
  }

  -- the next column's cell raises nothing
  pub checked_passes : (get_or to count 0 < min (get_or from count 0) (get_or mask count 0) → ⊥)
      → AreChecked first from mask to old (count + 1) now
  checked_passes closed = record {
    kept = checked.kept;
    each = checked.each;
    every = λ k less lower. elim (cases_lt k count) [
      | inl before ↦ checked.every k before lower
      | inr last ↦
          let same : k ≡ count = omega arith in
          absurd (closed (subst (λ j. get_or to j 0 < min (get_or from j 0) (get_or mask j 0)) same lower))
    ];
  }

  -- all columns are checked
  pub checked_all : length to ≤ count → HaveJoined (RaisesStraight first from mask to) true old now
  checked_all all = record {
    kept = checked.kept;
    each = checked.each;
    every = λ room i raises.
        subst (Contains now) raises.place (checked.every raises.column (omega (arith, raises.within)) raises.lower);
    full = inl refl;
  }

  -- there was no room for a cell
  pub checked_some : 0 < length now → HaveJoined (RaisesStraight first from mask to) false old now
  checked_some some = record {
    kept = checked.kept;
    each = checked.each;
    every = λ room. absurd (let no : false ≡ true = room in cc);
    full = inr some;
  }

-- no column is open
pub closed_joined : {first : ℕ} {from mask to old : List ℕ} → IsClosedStraight from mask to
    → HaveJoined (RaisesStraight first from mask to) true old old
closed_joined closed =
    none_joined (λ i raises. omega (arith, raises.lower, closed raises.column raises.within))

-- ---- parts of rows

-- the cell is that of a pixel of a part of the first row that raises the one at the same place of a part of the other
pub record RaisesAlong (first : ℕ) (from mask to : List ℕ) (i j size cell : ℕ) : Type 0 where
  pub step : ℕ
  pub within : step < size
  pub lower : get_or to (j + step) 0 < min (get_or from (i + step) 0) (get_or mask (j + step) 0)
  pub place : first + step ≡ cell

module _ {first : ℕ} {from mask to f m t : List ℕ} {i j n : ℕ} (parts : AreParts from mask to f m t i j n) {cell : ℕ}
  where
    pub raises_along : RaisesStraight first f m t cell → RaisesAlong first from mask to i j n cell
    raises_along raises =
        let k = raises.column in
        let within : k < n = omega (arith, raises.within, parts.to.long) in
        record {
          step = k;
          within = within;
          lower =
              omega (
                arith,
                raises.lower,
                parts.from.reads k within,
                parts.mask.reads k within,
                parts.to.reads k within,
              );
          place = raises.place;
        }

    pub raises_in_part : RaisesAlong first from mask to i j n cell → RaisesStraight first f m t cell
    raises_in_part raises =
        let k = raises.step in
        record {
          column = k;
          within = omega (arith, raises.within, parts.to.long);
          lower =
              omega (
                arith,
                raises.lower,
                parts.from.reads k raises.within,
                parts.mask.reads k raises.within,
                parts.to.reads k raises.within,
              );
          place = raises.place;
        }

-- a strip of columns of both rows
module _ {first : ℕ} {from mask to old : List ℕ} {start : ℕ} {mid : List ℕ} (end : ℕ)
    (checked : AreChecked first from mask to old start mid) (ordered : start ≤ end) (within : end ≤ length to)
    (rows : AreRows from mask to) where
  to_whole : (i : ℕ)
      → RaisesStraight (first + start) (between start end from) (between start end mask) (between start end to) i
      → RaisesStraight first from mask to i
  to_whole i raises =
      let along = raises_along (between_parts start end rows ordered within) raises in
      record {
        column = start + along.step;
        within = omega (arith, along.within);
        lower = along.lower;
        place = omega (arith, along.place);
      }

  pub strip_checked : {new : List ℕ}
      → HaveJoined
      (RaisesStraight (first + start) (between start end from) (between start end mask) (between start end to)) true mid
      new
      → AreChecked first from mask to old end new
  strip_checked joined = record {
    kept = λ i h. joined.kept i (checked.kept i h);
    each = λ i h. elim (joined.each i h) [
      | inl was ↦ checked.each i was
      | inr raises ↦ inr (to_whole i raises)
    ];
    every = λ k less lower. elim (cases_lt k start) [
      | inl before ↦ joined.kept (first + k) (checked.every k before lower)
      | inr after ↦
          let step = k - start in
          let same : k ≡ start + step = omega arith in
          joined.every refl (first + k)
          (raises_in_part (between_parts start end rows ordered within)
          (record {
            step = step;
            within = omega arith;
            lower = subst (λ j. get_or to j 0 < min (get_or from j 0) (get_or mask j 0)) same lower;
            place = omega arith;
          }))
    ];
  }

  pub strip_stopped : {new : List ℕ}
      → HaveJoined
      (RaisesStraight (first + start) (between start end from) (between start end mask) (between start end to)) false
      mid new
      → HaveJoined (RaisesStraight first from mask to) false old new
  strip_stopped joined = record {
    kept = λ i h. joined.kept i (checked.kept i h);
    each = λ i h. elim (joined.each i h) [
      | inl was ↦ checked.each i was
      | inr raises ↦ inr (to_whole i raises)
    ];
    every = λ room. absurd (let no : false ≡ true = room in cc);
    full = joined.full;
  }
