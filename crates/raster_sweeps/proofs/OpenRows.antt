-- Open pairs of a rectangle, row by row.
use Rattle.std.proofs.Common.{◌≡◌, ℕ, ◌+◌, ◌*◌, ◌<◌, ◌≤◌, ◌⊎◌, Bool, true, false, List, min, refl, ap, inl, inr, arith}
use Rattle.std.proofs.lemmas.Bool.{cases_lt}
use Rattle.grid_core.specs.{declared.conn.Conn.Conn, declared.rect.Rect.Rect, Neighbours.apart}
use Rattle.grid_core.specs.{Neighbours.AreNeighbours, Rects.part, Rects.IsRowOf}
use Rattle.grid_core.specs.Raster.{Raster, IsInside, value_at}
use Rattle.raster_sweeps.specs.Growth.{cell_of}
use Rattle.raster_sweeps.specs.RowPairs.{AreJoined, IsOpenCell, IsFromTo, IsOpenFrom, IsScannedUp, IsUpper}
use Rattle.row_scans.specs.Rows.{AreAside, AreBeside, RaisesTo, HaveJoined}
use Rattle.raster_sweeps.proofs.ImageRows.{value_in_row, rows_near, aside_in_row, neighbours_in_row, beside_in_rows}
use Rattle.raster_sweeps.proofs.ImageRows.{neighbours_in_rows}
use Rattle.row_scans.proofs.Joining.{none_joined, joined_same, joined_both, joined_stopped}

module _ {conn : Conn} {rect : Rect} {mask image : Raster} {y z : ℕ} (first : ℕ) {from limits to : List ℕ}
    (of_from : IsRowOf rect.w (part rect (value_at image)) y from)
    (of_mask : IsRowOf rect.w (part rect (value_at mask)) z limits)
    (of_to : IsRowOf rect.w (part rect (value_at image)) z to) (inside_y : y < rect.h) (inside_z : z < rect.h)
    (begins : first ≡ cell_of rect image.width (record { x = 0; y = y })) (cell : ℕ) where
  -- the pixels of two columns, as an open pair
  opens : (AreThese : ℕ → ℕ → Type 0) (raises : RaisesTo AreThese first from limits to cell)
      → AreNeighbours conn (record { x = raises.column; y = y }) (record { x = raises.other; y = z })
      → IsOpenCell conn rect mask image (IsFromTo y z) cell
  opens AreThese raises beside = record {
    pixel = record { x = raises.column; y = y };
    other = record { x = raises.other; y = z };
    raises =
        record {
          from_inside = (omega (arith, raises.within, of_to.long), inside_y);
          to_inside = (omega (arith, raises.other_within, of_to.long), inside_z);
          beside = beside;
          lower =
              omega (
                arith,
                raises.lower,
                of_from.values raises.column (omega (arith, raises.within, of_to.long)),
                of_mask.values raises.other (omega (arith, raises.other_within, of_to.long)),
                of_to.values raises.other (omega (arith, raises.other_within, of_to.long)),
              );
        };
    rows = (refl, refl);
    place = omega (arith, raises.place);
  }

  -- an open pair, as two columns
  columns_open : (AreThese : ℕ → ℕ → Type 0) (o : IsOpenCell conn rect mask image (IsFromTo y z) cell)
      → AreThese o.pixel.x o.other.x
      → RaisesTo AreThese first from limits to cell
  columns_open AreThese o these = record {
    column = o.pixel.x;
    other = o.other.x;
    within = omega (arith, o.raises.from_inside.0, of_to.long);
    other_within = omega (arith, o.raises.to_inside.0, of_to.long);
    beside = these;
    lower =
        omega (
          arith,
          o.raises.lower,
          value_in_row o.pixel of_from o.raises.from_inside.0 o.rows.0,
          value_in_row o.other of_mask o.raises.to_inside.0 o.rows.1,
          value_in_row o.other of_to o.raises.to_inside.0 o.rows.1,
        );
    place = omega (arith, o.place, ap (λ v. v * image.width) o.rows.0);
  }

  pub aside_opens : y ≡ z → RaisesTo AreAside first from limits to cell
      → IsOpenCell conn rect mask image (IsFromTo y z) cell
  aside_opens same raises =
      opens AreAside raises
      (neighbours_in_row conn (record { x = raises.column; y = y }) (record { x = raises.other; y = z }) same
      raises.beside)

  pub open_aside : y ≡ z → IsOpenCell conn rect mask image (IsFromTo y z) cell
      → RaisesTo AreAside first from limits to cell
  open_aside same o =
      columns_open AreAside o
      (aside_in_row conn o.pixel o.other o.raises.beside (omega (arith, o.rows.0, o.rows.1)))

  pub beside_opens : apart y z ≡ 1 → RaisesTo (AreBeside conn) first from limits to cell
      → IsOpenCell conn rect mask image (IsFromTo y z) cell
  beside_opens next raises =
      opens (AreBeside conn) raises
      (neighbours_in_rows conn (record { x = raises.column; y = y }) (record { x = raises.other; y = z }) next
      raises.beside)

  pub open_beside : apart y z ≡ 1 → IsOpenCell conn rect mask image (IsFromTo y z) cell
      → RaisesTo (AreBeside conn) first from limits to cell
  open_beside next o =
      columns_open (AreBeside conn) o
      (beside_in_rows conn o.pixel o.other o.raises.beside (omega (arith, o.rows.0, o.rows.1)))

-- ---- the pairs of a row

-- open pairs of some rows, as such of others
pub in_other_rows : {conn : Conn} {rect : Rect} {mask image : Raster} {AreRows AreOthers : ℕ → ℕ → Type 0} {cell : ℕ}
    → (o : IsOpenCell conn rect mask image AreRows cell) → AreOthers o.pixel.y o.other.y
    → IsOpenCell conn rect mask image AreOthers cell
in_other_rows o others = record {
  pixel = o.pixel;
  other = o.other;
  raises = o.raises;
  rows = others;
  place = o.place;
}

-- the upper of the two rows lies above this one
abbrev pub IsUpperAbove : ℕ → ℕ → ℕ → Type 0
IsUpperAbove y a b = min a b < y

module _ {conn : Conn} {rect : Rect} {mask image : Raster} (y : ℕ) where
  in_row : (cell : ℕ) → IsOpenCell conn rect mask image (IsFromTo y y) cell
      → IsOpenCell conn rect mask image (IsUpper y) cell
  in_row cell o = in_other_rows o (omega (arith, o.rows.0, o.rows.1))

  down_row : (cell : ℕ) → IsOpenCell conn rect mask image (IsFromTo y (y + 1)) cell
      → IsOpenCell conn rect mask image (IsUpper y) cell
  down_row cell o = in_other_rows o (omega (arith, o.rows.0, o.rows.1))

  up_row : (cell : ℕ) → IsOpenCell conn rect mask image (IsFromTo (y + 1) y) cell
      → IsOpenCell conn rect mask image (IsUpper y) cell
  up_row cell o = in_other_rows o (omega (arith, o.rows.0, o.rows.1))

  pub row_cases : (cell : ℕ) → IsOpenCell conn rect mask image (IsUpper y) cell
      → IsOpenCell conn rect mask image (IsFromTo y y) cell
      ⊎ (IsOpenCell conn rect mask image (IsFromTo y (y + 1)) cell
      ⊎ IsOpenCell conn rect mask image (IsFromTo (y + 1) y) cell)
  row_cases cell o =
      let near = rows_near conn o.pixel o.other o.raises.beside in
      elim (cases_lt o.pixel.y o.other.y) [
        | inl below ↦ inr (inl (in_other_rows o (omega (arith, o.rows), omega (arith, o.rows))))
        | inr not_below ↦ elim (cases_lt o.other.y o.pixel.y) [
          | inl above ↦ inr (inr (in_other_rows o (omega (arith, o.rows), omega (arith, o.rows))))
          | inr same ↦ inl (in_other_rows o (omega (arith, o.rows), omega (arith, o.rows)))
        ]
      ]

  pub row_stopped : {old new : List ℕ} → HaveJoined (IsOpenCell conn rect mask image (IsFromTo y y)) false old new
      → HaveJoined (IsOpenCell conn rect mask image (IsUpper y)) false old new
  row_stopped within = joined_stopped within in_row

  -- the last row has none below
  pub last_row_joined : {old new : List ℕ} → y + 1 ≡ rect.h
      → HaveJoined (IsOpenCell conn rect mask image (IsFromTo y y)) true old new
      → HaveJoined (IsOpenCell conn rect mask image (IsUpper y)) true old new
  last_row_joined last within =
      joined_same within in_row (λ cell o. elim (row_cases cell o) [
        | inl here ↦ here
        | inr other ↦ elim other [
          | inl down ↦ absurd (omega (arith, down.rows.1, down.raises.to_inside.1))
          | inr up ↦ absurd (omega (arith, up.rows.0, up.raises.from_inside.1))
        ]
      ])

  pub row_down_stopped : {old mid new : List ℕ}
      → HaveJoined (IsOpenCell conn rect mask image (IsFromTo y y)) true old mid
      → HaveJoined (IsOpenCell conn rect mask image (IsFromTo y (y + 1))) false mid new
      → HaveJoined (IsOpenCell conn rect mask image (IsUpper y)) false old new
  row_down_stopped within down =
      joined_stopped (joined_both within down)
      (λ cell o. elim o [ inl here ↦ in_row cell here | inr below ↦ down_row cell below ])

  pub row_joined : {room : Bool} {old mid low new : List ℕ}
      → HaveJoined (IsOpenCell conn rect mask image (IsFromTo y y)) true old mid
      → HaveJoined (IsOpenCell conn rect mask image (IsFromTo y (y + 1))) true mid low
      → HaveJoined (IsOpenCell conn rect mask image (IsFromTo (y + 1) y)) room low new
      → HaveJoined (IsOpenCell conn rect mask image (IsUpper y)) room old new
  row_joined within down up =
      joined_same (joined_both within (joined_both down up))
      (λ cell o. elim o [
        | inl here ↦ in_row cell here
        | inr other ↦ elim other [ inl below ↦ down_row cell below | inr above ↦ up_row cell above ]
      ]) row_cases

  -- where no pixel of the row raises another in it, nor one of the row below one of it
  open_downward : IsScannedUp conn rect mask image y → (cell : ℕ) → IsOpenCell conn rect mask image (IsUpper y) cell
      → IsOpenCell conn rect mask image (IsFromTo y (y + 1)) cell
  open_downward scanned cell o = elim (row_cases cell o) [
    | inl here ↦ absurd (scanned.along here.pixel here.other here.raises here.rows)
    | inr other ↦ elim other [
      | inl down ↦ down
      | inr up ↦ absurd (scanned.up up.pixel up.other up.raises up.rows)
    ]
  ]

  pub downward_joined : {room : Bool} {old new : List ℕ} → IsScannedUp conn rect mask image y
      → HaveJoined (IsOpenCell conn rect mask image (IsFromTo y (y + 1))) room old new
      → HaveJoined (IsOpenCell conn rect mask image (IsUpper y)) room old new
  downward_joined scanned down = joined_same down down_row (open_downward scanned)

  -- the last row has none below
  pub last_row_closed : {waiting : List ℕ} → y + 1 ≡ rect.h → IsScannedUp conn rect mask image y
      → HaveJoined (IsOpenCell conn rect mask image (IsUpper y)) true waiting waiting
  last_row_closed last scanned = none_joined (λ cell o.
      let down = open_downward scanned cell o in
      omega (arith, last, down.rows.1, down.raises.to_inside.1))

  -- one row more
  pub rows_joined : {room : Bool} {old mid new : List ℕ}
      → HaveJoined (IsOpenCell conn rect mask image (IsUpperAbove y)) true old mid
      → HaveJoined (IsOpenCell conn rect mask image (IsUpper y)) room mid new
      → HaveJoined (IsOpenCell conn rect mask image (IsUpperAbove (y + 1))) room old new
  rows_joined before here =
      joined_same (joined_both before here)
      (λ cell o. elim o [
        | inl above ↦ in_other_rows above (omega (arith, above.rows))
        | inr own ↦ in_other_rows own (omega (arith, own.rows))
      ])
      (λ cell o. elim (cases_lt (min o.pixel.y o.other.y) y) [
        | inl above ↦ inl (in_other_rows o above)
        | inr own ↦ inr (in_other_rows o (omega (arith, o.rows)))
      ])

  of_inside : (cell : ℕ) → IsOpenCell conn rect mask image (IsUpperAbove y) cell
      → IsOpenFrom conn rect mask image (IsInside rect.w rect.h) cell
  of_inside cell o = record {
    pixel = o.pixel;
    other = o.other;
    raises = o.raises;
    from = o.raises.from_inside;
    place = o.place;
  }

  pub rows_stopped : {old new : List ℕ}
      → HaveJoined (IsOpenCell conn rect mask image (IsUpperAbove y)) false old new
      → AreJoined conn rect mask image (IsInside rect.w rect.h) false old new
  rows_stopped joined = joined_stopped joined of_inside

  -- after all rows each open pair has joined
  pub all_rows_joined : {old new : List ℕ} → rect.h ≤ y
      → HaveJoined (IsOpenCell conn rect mask image (IsUpperAbove y)) true old new
      → AreJoined conn rect mask image (IsInside rect.w rect.h) true old new
  all_rows_joined all joined =
      joined_same joined of_inside
      (λ cell begins. record {
        pixel = begins.pixel;
        other = begins.other;
        raises = begins.raises;
        rows = omega (arith, begins.raises.from_inside.1);
        place = begins.place;
      })
