-- Rows of an image, and which pixels of them are neighbours.
use Rattle.std.proofs.Common.{◌≡◌, ℕ, ◌+◌, ◌<◌, ◌≤◌, List, get_or, min, refl, sym, ap, ◌∙◌, inl, inr, arith}
use Rattle.std.proofs.lemmas.Bool.{cases_lt}
use Rattle.grid_core.specs.{declared.conn.Conn.Conn, declared.conn.Conn.TheVariants.Four}
use Rattle.grid_core.specs.{declared.conn.Conn.TheVariants.Eight, declared.pixel.Pixel.Pixel, Neighbours.apart}
use Rattle.grid_core.specs.{Neighbours.AreNeighbours, Path.Domain, Path.Inside, Rects.IsRowOf}
use Rattle.row_scans.specs.Rows.{AreAside, AreBeside, IsClosedTo}
use Rattle.raster_sweeps.specs.RowPairs.{IsRowClosed}

-- ---- neighbours, by their rows and columns

pub rows_near : (conn : Conn) (p q : Pixel) → AreNeighbours conn p q → apart p.y q.y ≤ 1
rows_near Four p q beside = omega arith
rows_near Eight p q beside = beside.1

pub aside_in_row : (conn : Conn) (p q : Pixel) → AreNeighbours conn p q → p.y ≡ q.y → AreAside p.x q.x
aside_in_row Four p q beside same = omega arith
aside_in_row Eight p q beside same = omega (arith, beside)

pub neighbours_in_row : (conn : Conn) (p q : Pixel) → p.y ≡ q.y → AreAside p.x q.x → AreNeighbours conn p q
neighbours_in_row Four p q same aside = omega arith
neighbours_in_row Eight p q same aside = (omega arith, omega arith, omega arith)

pub beside_in_rows : (conn : Conn) (p q : Pixel) → AreNeighbours conn p q → apart p.y q.y ≡ 1 → AreBeside conn p.x q.x
beside_in_rows Four p q beside next = omega arith
beside_in_rows Eight p q beside next = beside.0

pub neighbours_in_rows : (conn : Conn) (p q : Pixel) → apart p.y q.y ≡ 1 → AreBeside conn p.x q.x
    → AreNeighbours conn p q
neighbours_in_rows Four p q next beside = omega (arith, beside)
neighbours_in_rows Eight p q next beside = (beside, omega arith, omega arith)

-- ---- pairs of rows

-- the value of a pixel in its row
pub value_in_row : {width : ℕ} {f : Pixel → ℕ} {y : ℕ} {row : List ℕ} (p : Pixel) → IsRowOf width f y row → p.x < width
    → p.y ≡ y → get_or row p.x 0 ≡ f p
value_in_row {f} p of_row less same = of_row.values p.x less ∙ ap (λ v. f (record { x = p.x; y = v })) (sym same)

-- no pixel of a row raises a neighbour in another row, which may be the same
abbrev pub IsClosedFrom : Domain → (Pixel → ℕ) → (Pixel → ℕ) → ℕ → ℕ → Type 0
IsClosedFrom d mask j y z =
    (p q : Pixel) → Inside d p → Inside d q → AreNeighbours d.conn p q → p.y ≡ y → q.y ≡ z → min (j p) (mask q) ≤ j q

module _ (d : Domain) {mask j : Pixel → ℕ} {y z : ℕ} {from limits to : List ℕ} (of_from : IsRowOf d.width j y from)
    (of_mask : IsRowOf d.width mask z limits) (of_to : IsRowOf d.width j z to) where
  -- a pair of columns is closed if the pair of pixels is
  columns_closed : (p q : Pixel) → Inside d p → Inside d q → p.y ≡ y → q.y ≡ z → min (j p) (mask q) ≤ j q
      → min (get_or from p.x 0) (get_or limits q.x 0) ≤ get_or to q.x 0
  columns_closed p q inside_p inside_q row_p row_q closed =
      omega (
        arith,
        closed,
        value_in_row p of_from inside_p.0 row_p,
        value_in_row q of_mask inside_q.0 row_q,
        value_in_row q of_to inside_q.0 row_q,
      )

  -- a pair of pixels is closed if the pair of columns is
  pixels_closed : (p q : Pixel) → Inside d p → Inside d q → p.y ≡ y → q.y ≡ z
      → min (get_or from p.x 0) (get_or limits q.x 0) ≤ get_or to q.x 0
      → min (j p) (mask q) ≤ j q
  pixels_closed p q inside_p inside_q row_p row_q closed =
      omega (
        arith,
        closed,
        value_in_row p of_from inside_p.0 row_p,
        value_in_row q of_mask inside_q.0 row_q,
        value_in_row q of_to inside_q.0 row_q,
      )

  pub aside_closed : y ≡ z → IsClosedTo AreAside from limits to → IsClosedFrom d mask j y z
  aside_closed same closed p q inside_p inside_q beside row_p row_q =
      pixels_closed p q inside_p inside_q row_p row_q
      (closed p.x q.x (omega (arith, inside_p.0, of_to.long)) (omega (arith, inside_q.0, of_to.long))
      (aside_in_row d.conn p q beside (omega arith)))

  pub closed_aside : y ≡ z → y < d.height → IsClosedFrom d mask j y z → IsClosedTo AreAside from limits to
  closed_aside same inside closed a b less_a less_b aside =
      let p : Pixel = record { x = a; y = y } in
      let q : Pixel = record { x = b; y = z } in
      let inside_p : Inside d p = (omega (arith, of_to.long), inside) in
      let inside_q : Inside d q = (omega (arith, of_to.long), omega arith) in
      columns_closed p q inside_p inside_q refl refl
      (closed p q inside_p inside_q (neighbours_in_row d.conn p q same aside) refl refl)

  pub beside_closed : apart y z ≡ 1 → IsClosedTo (AreBeside d.conn) from limits to → IsClosedFrom d mask j y z
  beside_closed next closed p q inside_p inside_q beside row_p row_q =
      pixels_closed p q inside_p inside_q row_p row_q
      (closed p.x q.x (omega (arith, inside_p.0, of_to.long)) (omega (arith, inside_q.0, of_to.long))
      (beside_in_rows d.conn p q beside (omega arith)))

  pub closed_beside : apart y z ≡ 1 → y < d.height → z < d.height → IsClosedFrom d mask j y z
      → IsClosedTo (AreBeside d.conn) from limits to
  closed_beside next inside_y inside_z closed a b less_a less_b beside =
      let p : Pixel = record { x = a; y = y } in
      let q : Pixel = record { x = b; y = z } in
      let inside_p : Inside d p = (omega (arith, of_to.long), inside_y) in
      let inside_q : Inside d q = (omega (arith, of_to.long), inside_z) in
      columns_closed p q inside_p inside_q refl refl
      (closed p q inside_p inside_q (neighbours_in_rows d.conn p q next beside) refl refl)

-- ---- a row with itself and with the row below

pub row_closed : (d : Domain) (mask j : Pixel → ℕ) (y : ℕ) → IsClosedFrom d mask j y y
    → IsClosedFrom d mask j y (y + 1)
    → IsClosedFrom d mask j (y + 1) y
    → IsRowClosed d mask j y
row_closed d mask j y own down up p q inside_p inside_q beside upper =
    let near = rows_near d.conn p q beside in
    elim (cases_lt p.y q.y) [
      | inl below ↦ down p q inside_p inside_q beside (omega arith) (omega arith)
      | inr not_below ↦ elim (cases_lt q.y p.y) [
        | inl above ↦ up p q inside_p inside_q beside (omega arith) (omega arith)
        | inr same ↦ own p q inside_p inside_q beside (omega arith) (omega arith)
      ]
    ]

-- the last row has none below
pub last_row_closed : (d : Domain) (mask j : Pixel → ℕ) (y : ℕ) → y + 1 ≡ d.height → IsClosedFrom d mask j y y
    → IsRowClosed d mask j y
last_row_closed d mask j y last own =
    row_closed d mask j y own
    (λ p q inside_p inside_q beside row_p row_q. absurd (omega (arith, inside_q.1)))
    (λ p q inside_p inside_q beside row_p row_q. absurd (omega (arith, inside_p.1)))

pub own_of_row : (d : Domain) (mask j : Pixel → ℕ) (y : ℕ) → IsRowClosed d mask j y → IsClosedFrom d mask j y y
own_of_row d mask j y closed p q inside_p inside_q beside row_p row_q =
    closed p q inside_p inside_q beside (omega arith)

pub down_of_row : (d : Domain) (mask j : Pixel → ℕ) (y : ℕ) → IsRowClosed d mask j y
    → IsClosedFrom d mask j y (y + 1)
down_of_row d mask j y closed p q inside_p inside_q beside row_p row_q =
    closed p q inside_p inside_q beside (omega arith)

pub up_of_row : (d : Domain) (mask j : Pixel → ℕ) (y : ℕ) → IsRowClosed d mask j y
    → IsClosedFrom d mask j (y + 1) y
up_of_row d mask j y closed p q inside_p inside_q beside row_p row_q =
    closed p q inside_p inside_q beside (omega arith)
