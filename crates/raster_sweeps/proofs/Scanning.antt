-- A scan, row by row.
use Rattle.std.proofs.Common.{◌≡◌, ℕ, ◌+◌, ◌-◌, ◌<◌, ◌≤◌, Bool, IsTrue, List, [], length, min, refl, sym, ap, ◌∙◌}
use Rattle.std.proofs.Common.{subst, inl, inr, arith, Contains}
use Rattle.std.proofs.lemmas.Bool.{cases_lt}
use Rattle.grid_core.specs.{declared.conn.Conn.Conn, declared.pixel.Pixel.Pixel, declared.rect.Rect.Rect, Raster.Raster}
use Rattle.raster_sweeps.specs.Growth.{IsOpenIn, WaitFrom, AllWait, AreInside, cell_of}
use Rattle.raster_sweeps.specs.RowPairs.{IsDark, IsOpenCell, IsFromTo, IsNotUp, IsRowGrown, IsScannedUp, IsUpper}
use Rattle.raster_sweeps.specs.RowPairs.{NoneOpen, NoneOpenAlong, NoneOpenToLeft, NoneOpenToRight}
use Rattle.row_scans.specs.Rows.{HaveJoined}
use Rattle.raster_sweeps.proofs.{Grown.grown_twice, ImageRows.aside_in_row, ImageRows.rows_near, Spans.near_rows}

-- a row that has grown twice
pub row_grown_twice : {conn : Conn} {rect : Rect} {mask : Raster} {y : ℕ} {before between after : Raster}
    → IsRowGrown conn rect mask y before between → IsRowGrown conn rect mask y between after
    → IsRowGrown conn rect mask y before after
row_grown_twice first second = record {
  grown = grown_twice first.grown second.grown;
  others = λ p inside other. second.others p inside other ∙ first.others p inside other;
}

-- a row of which no pixel raises the one to its left or to its right
pub none_open_along : (conn : Conn) (rect : Rect) (mask image : Raster) (y : ℕ)
    → NoneOpenToLeft conn rect mask image y → NoneOpenToRight conn rect mask image y
    → NoneOpenAlong conn rect mask image y
none_open_along conn rect mask image y none_left none_right p q raises rows =
    let aside = aside_in_row conn p q raises.beside (omega (arith, rows.0, rows.1)) in
    elim (cases_lt p.x q.x) [
      | inl right ↦ none_right p q raises rows right
      | inr left ↦ none_left p q raises rows (omega (arith, aside, left))
    ]

-- where no pixel of a row could raise one of another, none can after that other one has grown
pub across_stays : {conn : Conn} {rect : Rect} {mask : Raster} {y z : ℕ} {before after : Raster} → (y ≡ z → ⊥)
    → NoneOpen conn rect mask before (IsFromTo y z) → IsRowGrown conn rect mask z before after
    → NoneOpen conn rect mask after (IsFromTo y z)
across_stays apart none grown p q raises rows =
    none p q
    (record {
      from_inside = raises.from_inside;
      to_inside = raises.to_inside;
      beside = raises.beside;
      lower =
          omega (
            arith,
            raises.lower,
            grown.others p raises.from_inside (λ same. apart (sym rows.0 ∙ same)),
            (grown.grown.lawful q raises.to_inside).0,
          );
    })
    rows

-- the last row has none below
pub last_scanned_up : (conn : Conn) (rect : Rect) (mask image : Raster) (y : ℕ) → rect.h ≤ y + 1
    → NoneOpenAlong conn rect mask image y
    → IsScannedUp conn rect mask image y
last_scanned_up conn rect mask image y last none_along = record {
  along = none_along;
  up = λ p q raises rows. absurd (omega (arith, last, raises.from_inside.1, rows.0));
}

-- what has joined a queue of cells of the rectangle is inside too
pub joined_inside : {conn : Conn} {rect : Rect} {mask image : Raster} {AreRows : ℕ → ℕ → Type 0} {room : Bool}
    {old new : List ℕ} → AreInside rect image.width old
    → HaveJoined (IsOpenCell conn rect mask image AreRows) room old new → AreInside rect image.width new
joined_inside inside joined i there = elim (joined.each i there) [
  | inl before ↦ inside i before
  | inr o ↦ (o.pixel, o.raises.from_inside, o.place)
]

module _ {conn : Conn} {rect : Rect} {mask before after : Raster} {y : ℕ} {room : Bool} {old new : List ℕ}
    (grown : IsRowGrown conn rect mask y before after)
    (joined : HaveJoined (IsOpenCell conn rect mask after (IsUpper y)) room old new) (all : IsTrue room) where
  -- the first pixels of the open pairs from this row on wait, once the row is scanned and checked
  pub row_waits : WaitFrom conn rect mask before (y + 1) old → WaitFrom conn rect mask after y new
  row_waits waits p q raises from_p from_q = elim (cases_lt y (min p.y q.y)) [
    | inr own ↦
        joined.every all (cell_of rect after.width p)
        (record { pixel = p; other = q; raises = raises; rows = omega arith; place = refl })
    | inl lower ↦
        let same_p = grown.others p raises.from_inside (λ e. omega arith) in
        let same_q = grown.others q raises.to_inside (λ e. omega arith) in
        let raised : IsOpenIn conn rect mask before p q = record {
          from_inside = raises.from_inside;
          to_inside = raises.to_inside;
          beside = raises.beside;
          lower = omega (arith, raises.lower, same_p, same_q);
        } in
        let there : Contains old (cell_of rect before.width p) = waits p q raised (omega arith) (omega arith) in
        joined.kept (cell_of rect after.width p)
        (subst (λ w. Contains old (cell_of rect w p)) (sym grown.grown.width) there)
  ]

-- from the last row on no pair is open, so that nothing has to wait
pub last_row_waits : (conn : Conn) (rect : Rect) (mask image : Raster) (waiting : List ℕ) (y : ℕ) → rect.h ≤ y + 1
    → NoneOpenAlong conn rect mask image y → WaitFrom conn rect mask image y waiting
last_row_waits conn rect mask image waiting y last none p q raises from_p from_q =
    absurd (none p q raises (
      omega (arith, last, raises.from_inside.1, from_p),
      omega (arith, last, raises.to_inside.1, from_q),
    ))

pub none_inside : (rect : Rect) (width : ℕ) (waiting : List ℕ) → waiting ≡ [] → AreInside rect width waiting
none_inside rect width waiting empty i there = absurd (omega (arith, there.1, ap length empty))

pub all_wait : (conn : Conn) (rect : Rect) (mask image : Raster) (waiting : List ℕ) (y : ℕ) → y ≡ 0
    → WaitFrom conn rect mask image y waiting → AllWait conn rect mask image waiting
all_wait conn rect mask image waiting y top waits p q raises = waits p q raises (omega arith) (omega arith)

-- between two rows that are 0 no pair is open, so each that is open from the first of them on waits
pub dark_waits : (conn : Conn) (rect : Rect) (mask image : Raster) (waiting : List ℕ) (y : ℕ)
    → IsDark rect image y → IsDark rect image (y + 1) → WaitFrom conn rect mask image (y + 1) waiting
    → WaitFrom conn rect mask image y waiting
dark_waits conn rect mask image waiting y upper lower waits p q raises from_p from_q =
    elim (cases_lt y (min p.y q.y)) [
      | inl below ↦ waits p q raises (omega arith) (omega arith)
      | inr own ↦ elim (cases_lt y p.y) [
        | inr first ↦ absurd (omega (arith, raises.lower, upper p raises.from_inside (omega (arith, first, from_p))))
        | inl later ↦
            let next : p.y ≡ y + 1 = elim (near_rows conn p q raises.beside) [
              | inl above ↦ omega (arith, above, own, later)
              | inr other ↦ elim other [
                | inl same ↦ absurd (omega (arith, same, own, later))
                | inr under ↦ absurd (omega (arith, under, own, later))
              ]
            ] in
            absurd (omega (arith, raises.lower, lower p raises.from_inside next))
      ]
    ]

-- ---- pairs that do not lead up

-- the first row lies no lower than the second, and both before this one
abbrev pub IsNotUpAbove : ℕ → ℕ → ℕ → Type 0
IsNotUpAbove y a b = (a ≤ b) × (b < y)

-- the first row lies no lower than the second, and before this one
abbrev pub IsNotUpFrom : ℕ → ℕ → ℕ → Type 0
IsNotUpFrom y a b = (a ≤ b) × (a < y)

-- an open pair of an image that has grown in one row is one of the image before, where its first pixel lies in another
was_open : {conn : Conn} {rect : Rect} {mask before after : Raster} {y : ℕ} → IsRowGrown conn rect mask y before after
    → (p q : Pixel) → IsOpenIn conn rect mask after p q → (p.y ≡ y → ⊥)
    → IsOpenIn conn rect mask before p q
was_open grown p q raises other = record {
  from_inside = raises.from_inside;
  to_inside = raises.to_inside;
  beside = raises.beside;
  lower =
      omega (
        arith,
        raises.lower,
        grown.others p raises.from_inside other,
        (grown.grown.lawful q raises.to_inside).0,
      );
}

module _ {conn : Conn} {rect : Rect} {mask before after : Raster} {y : ℕ}
    (grown : IsRowGrown conn rect mask y before after) where
  -- the raster scan of a row
  pub scanned_down : 0 < y → NoneOpenAlong conn rect mask after y → NoneOpen conn rect mask after (IsFromTo (y - 1) y)
      → NoneOpen conn rect mask before (IsNotUpAbove y) → NoneOpen conn rect mask after (IsNotUpAbove (y + 1))
  scanned_down some along across above p q raises rows =
      let near = rows_near conn p q raises.beside in
      elim (cases_lt q.y y) [
        | inl before ↦
            above p q (was_open grown p q raises (λ same. omega (arith, same, rows.0, before))) (rows.0, before)
        | inr not_before ↦ elim (cases_lt p.y y) [
          | inl upper ↦
              across p q raises
              (omega (arith, some, near, upper, not_before, rows.1), omega (arith, not_before, rows.1))
          | inr same ↦ along p q raises (omega (arith, same, rows.0, rows.1), omega (arith, not_before, rows.1))
        ]
      ]

  -- behind the raster scan no more pairs are open in the rows before one that has grown
  pub none_up_grown : NoneOpen conn rect mask before (IsNotUpFrom (y + 1))
      → NoneOpen conn rect mask after (IsNotUpFrom y)
  none_up_grown none p q raises rows =
      none p q (was_open grown p q raises (λ same. omega (arith, same, rows.1))) (rows.0, omega (arith, rows.1))

module _ (conn : Conn) (rect : Rect) (mask image : Raster) where
  -- the raster scan of the first row
  pub first_scanned_down : NoneOpenAlong conn rect mask image 0 → NoneOpen conn rect mask image (IsNotUpAbove 1)
  first_scanned_down along p q raises rows = along p q raises (omega (arith, rows.0, rows.1), omega (arith, rows.1))

  module _ (y : ℕ) where
    -- a row that is 0 as is the one before it is passed over
    pub dark_scanned_down : 0 < y → IsDark rect image (y - 1) → IsDark rect image y
        → NoneOpen conn rect mask image (IsNotUpAbove y)
        → NoneOpen conn rect mask image (IsNotUpAbove (y + 1))
    dark_scanned_down some upper lower above p q raises rows =
        let near = rows_near conn p q raises.beside in
        elim (cases_lt q.y y) [
          | inl before ↦ above p q raises (rows.0, before)
          | inr not_before ↦ elim (cases_lt p.y y) [
            | inl first ↦
                omega (
                  arith,
                  raises.lower,
                  upper p raises.from_inside (omega (arith, some, near, first, not_before, rows.1)),
                )
            | inr same ↦
                omega (arith, raises.lower, lower p raises.from_inside (omega (arith, same, rows.0, rows.1)))
          ]
        ]

    -- the scan of all rows
    pub all_scanned_down : rect.h ≤ y → NoneOpen conn rect mask image (IsNotUpAbove y)
        → NoneOpen conn rect mask image IsNotUp
    all_scanned_down all above p q raises rows = above p q raises (rows, omega (arith, all, raises.to_inside.1))

    -- behind it the rows before any one have no such pair
    pub none_up_from : NoneOpen conn rect mask image IsNotUp → NoneOpen conn rect mask image (IsNotUpFrom y)
    none_up_from none p q raises rows = none p q raises rows.0

    pub none_up_above : NoneOpen conn rect mask image (IsNotUpFrom (y + 1))
        → NoneOpen conn rect mask image (IsNotUpFrom y)
    none_up_above none p q raises rows = none p q raises (rows.0, omega (arith, rows.1))

    -- from the last row on nothing has to wait
    pub last_waits : (waiting : List ℕ) → rect.h ≤ y + 1 → NoneOpen conn rect mask image IsNotUp
        → WaitFrom conn rect mask image y waiting
    last_waits waiting last none p q raises from_p from_q =
        absurd (none p q raises (omega (arith, last, raises.from_inside.1, from_q)))

    -- nor does more where the row below raises none of a row
    pub passed_waits : (waiting : List ℕ) → NoneOpen conn rect mask image (IsFromTo (y + 1) y)
        → NoneOpen conn rect mask image (IsNotUpFrom (y + 1)) → WaitFrom conn rect mask image (y + 1) waiting
        → WaitFrom conn rect mask image y waiting
    passed_waits waiting up none waits p q raises from_p from_q =
        let near = rows_near conn p q raises.beside in
        elim (cases_lt p.y (y + 1)) [
          | inl own ↦ absurd (none p q raises (omega (arith, own, from_p, from_q), own))
          | inr lower ↦ elim (cases_lt q.y (y + 1)) [
            | inl above ↦
                absurd (up p q raises (omega (arith, near, lower, above, from_q), omega (arith, above, from_q)))
            | inr both ↦ waits p q raises lower both
          ]
        ]
