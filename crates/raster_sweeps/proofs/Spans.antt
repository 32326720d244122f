-- The spans around a cell hold the neighbours of its pixel.
use Rattle.std.proofs.Common.{◌≡◌, ℕ, ◌+◌, ◌-◌, ◌*◌, ◌/◌, ◌%◌, ◌<◌, ◌≤◌, ◌⊎◌, min, max, sym, ◌∙◌, ap, arith, inl, inr}
use Rattle.std.proofs.Common.{refl}
use Rattle.std.proofs.{lemmas.Bool.cases_eq, lemmas.Bool.cases_order, Math.Nat.mul-le-mul_left}
use Rattle.std.proofs.lemmas.Nat.{div-mul-add, mod-mul-add, mul-le}
use Rattle.grid_core.specs.{declared.conn.Conn.Conn, declared.conn.Conn.TheVariants.Four}
use Rattle.grid_core.specs.{declared.conn.Conn.TheVariants.Eight, declared.pixel.Pixel.Pixel, declared.rect.Rect.Rect}
use Rattle.grid_core.specs.{Neighbours.AreNeighbours, Neighbours.apart, Raster.IsInside, Raster.max_pixels}
use Rattle.grid_core.proofs.Pixels.{same_pixel}
use Rattle.raster_sweeps.specs.{declared.neighbourhood.RowSpan.RowSpan, Growth.cell_of}
use Rattle.raster_sweeps.specs.Spans.{AreAround, InSpan, IsAround}

-- the span holds the neighbours of the pixel in some rows, and nothing else but the pixel itself
pub record IsSpanOf (conn : Conn) (rect : Rect) (width : ℕ) (p : Pixel) (rows : ℕ → Type 0) (span : RowSpan)
    : Type 0 where
  pub each : (k : ℕ) → InSpan span k
      → (q : Pixel) × IsInside rect.w rect.h q × (cell_of rect width q ≡ k) × ((q ≡ p) ⊎ AreNeighbours conn p q)
  pub every : (q : Pixel) → IsInside rect.w rect.h q → AreNeighbours conn p q → rows q.y
      → InSpan span (cell_of rect width q)

-- neighbours lie in one row, or in rows one above the other
pub near_rows : (conn : Conn) (p q : Pixel) → AreNeighbours conn p q
    → (q.y + 1 ≡ p.y) ⊎ ((q.y ≡ p.y) ⊎ (q.y ≡ p.y + 1))
near_rows Four p q near =
    elim (cases_order q.y p.y) [
      | inl same ↦ inr (inl same)
      | inr other ↦ elim other [
        | inl less ↦ inl (omega (arith, near, less))
        | inr more ↦ inr (inr (omega (arith, near, more)))
      ]
    ]
near_rows Eight p q near =
    elim (cases_order q.y p.y) [
      | inl same ↦ inr (inl same)
      | inr other ↦ elim other [
        | inl less ↦ inl (omega (arith, near.1, less))
        | inr more ↦ inr (inr (omega (arith, near.1, more)))
      ]
    ]

-- the spans of the row above, the own row and the row below hold all neighbours
pub spans_of : {conn : Conn} {rect : Rect} {width : ℕ} {p : Pixel} {above beside below : RowSpan}
    → IsSpanOf conn rect width p (λ y. y + 1 ≡ p.y) above → IsSpanOf conn rect width p (λ y. y ≡ p.y) beside
    → IsSpanOf conn rect width p (λ y. y ≡ p.y + 1) below
    → AreAround conn rect width p (IsAround (record { above = above; beside = beside; below = below }))
spans_of {conn} {p} up own down = record {
  each = λ k around. elim around [
    | inl here ↦ up.each k here
    | inr further ↦ elim further [ inl here ↦ own.each k here | inr here ↦ down.each k here ]
  ];
  every = λ q inside near. elim (near_rows conn p q near) [
    | inl row ↦ inl (up.every q inside near row)
    | inr further ↦ elim further [
      | inl row ↦ inr (inl (own.every q inside near row))
      | inr row ↦ inr (inr (down.every q inside near row))
    ]
  ];
}

-- a span with no cell holds the neighbours in no row
pub no_span : {conn : Conn} {rect : Rect} {width : ℕ} {p : Pixel} {rows : ℕ → Type 0} {span : RowSpan}
    → ((k : ℕ) → InSpan span k → ⊥) → ((q : Pixel) → IsInside rect.w rect.h q → rows q.y → ⊥)
    → IsSpanOf conn rect width p rows span
no_span none empty = record {
  each = λ k here. absurd (none k here);
  every = λ q inside near row. absurd (empty q inside row);
}

-- the first column beside a column, and the one after the last, as far as the rectangle has them
abbrev pub first_beside : Rect → ℕ → ℕ
first_beside rect x = max x (rect.x + 1) - 1

abbrev pub end_beside : Rect → ℕ → ℕ
end_beside rect x = min (x + 2) (rect.x + rect.w)

-- the columns of the neighbours in the rows above and below
abbrev pub AreColumns : Conn → Rect → ℕ → ℕ → ℕ → Type 0
AreColumns Four rect x left right = (left ≡ x) × (right ≡ x + 1)
AreColumns Eight rect x left right = (left ≡ first_beside rect x) × (right ≡ end_beside rect x)

-- pixels in these columns and in the row above or below are neighbours
columns_near : (conn : Conn) (rect : Rect) (p q : Pixel) (left right : ℕ)
    → AreColumns conn rect (rect.x + p.x) left right → apart p.y q.y ≡ 1
    → left ≤ rect.x + q.x → rect.x + q.x < right → AreNeighbours conn p q
columns_near Four rect p q left right columns rows from to =
    let same : p.x ≡ q.x = omega (arith, columns.0, columns.1, from, to) in
    omega (arith, rows, same)
columns_near Eight rect p q left right columns rows from to =
    (omega (arith, columns.0, columns.1, from, to), omega (arith, rows), omega (arith, rows))

-- neighbours in the row above or below are in these columns
near_columns : (conn : Conn) (rect : Rect) (p q : Pixel) (left right : ℕ)
    → AreColumns conn rect (rect.x + p.x) left right → IsInside rect.w rect.h q → AreNeighbours conn p q
    → apart p.y q.y ≡ 1 → (left ≤ rect.x + q.x) × (rect.x + q.x < right)
near_columns Four rect p q left right columns inside near rows =
    let same : p.x ≡ q.x = omega (arith, near, rows) in
    (omega (arith, columns.0, same), omega (arith, columns.1, same))
near_columns Eight rect p q left right columns inside near rows =
    (omega (arith, columns.0, near.0, inside.0), omega (arith, columns.1, near.0, inside.0))

-- the columns lie in the rectangle
columns_inside : (conn : Conn) (rect : Rect) (p : Pixel) (left right : ℕ)
    → AreColumns conn rect (rect.x + p.x) left right → IsInside rect.w rect.h p
    → (rect.x ≤ left) × (right ≤ rect.x + rect.w)
columns_inside Four rect p left right columns inside =
    (omega (arith, columns.0, inside.0), omega (arith, columns.1, inside.0))
columns_inside Eight rect p left right columns inside =
    (omega (arith, columns.0, inside.0), omega (arith, columns.1, inside.0))

-- pixels of one row are neighbours where they are one column apart
beside_near : (conn : Conn) (p q : Pixel) → q.y ≡ p.y → q.x ≤ p.x + 1 → p.x ≤ q.x + 1
    → (q ≡ p) ⊎ AreNeighbours conn p q
beside_near Four p q row left right =
    elim (cases_eq q.x p.x) [
      | inl same ↦ inl (same_pixel q p same row)
      | inr other ↦ inr (omega (arith, row, left, right, other))
    ]
beside_near Eight p q row left right =
    elim (cases_eq q.x p.x) [
      | inl same ↦ inl (same_pixel q p same row)
      | inr other ↦ inr (omega (arith, left, right), omega (arith, row), omega (arith, row, left, right, other))
    ]

-- neighbours are at most one column apart
pub near_beside : (conn : Conn) (p q : Pixel) → AreNeighbours conn p q → (q.x ≤ p.x + 1) × (p.x ≤ q.x + 1)
near_beside Four p q near = (omega (arith, near), omega (arith, near))
near_beside Eight p q near = (omega (arith, near.0), omega (arith, near.0))

-- the pixel of a row of the rectangle whose cell lies in these columns
pixel_in_row : (rect : Rect) (width y left right k : ℕ) → y < rect.h → rect.x ≤ left → right ≤ rect.x + rect.w
    → (rect.y + y) * width + left ≤ k → k < (rect.y + y) * width + right
    → (q : Pixel) × IsInside rect.w rect.h q × (cell_of rect width q ≡ k) × (q.y ≡ y)
    × (left ≤ rect.x + q.x) × (rect.x + q.x < right)
pixel_in_row rect width y left right k row from to low high =
    let start : ℕ = (rect.y + y) * width in
    let column : ℕ = k - start - rect.x in (
      record { x = column; y = y },
      (omega arith, row),
      omega arith,
      refl,
      omega arith,
      omega arith,
    )

module _ (conn : Conn) (rect : Rect) (width : ℕ) (p : Pixel) (inside : IsInside rect.w rect.h p)
    (left right : ℕ) (columns : AreColumns conn rect (rect.x + p.x) left right) (span : RowSpan) where
  -- the span of the row above
  pub span_above : (y : ℕ) → y + 1 ≡ p.y → span.first ≡ (rect.y + y) * width + left
      → span.end ≡ (rect.y + y) * width + right → IsSpanOf conn rect width p (λ r. r + 1 ≡ p.y) span
  span_above y row first end =
      let within = columns_inside conn rect p left right columns inside in
      record {
        each = λ k here.
            let found =
            pixel_in_row rect width y left right k (omega (arith, row, inside.1)) within.0 within.1
            (omega (arith, here.0, first)) (omega (arith, here.1, end)) in (
              found.0,
              found.1,
              found.2,
              inr (columns_near conn rect p found.0 left right columns (omega (arith, found.3, row)) found.4 found.5),
            );
        every = λ q inside_q near row_q.
            let at = near_columns conn rect p q left right columns inside_q near (omega (arith, row_q)) in
            let same : q.y ≡ y = omega (arith, row_q, row) in
            let start : (rect.y + q.y) * width ≡ (rect.y + y) * width = ap (λ r. (rect.y + r) * width) same in
            (omega (arith, start, first, at.0), omega (arith, start, end, at.1));
      }

  -- the span of the row below
  pub span_below : p.y + 1 < rect.h → span.first ≡ (rect.y + (p.y + 1)) * width + left
      → span.end ≡ (rect.y + (p.y + 1)) * width + right → IsSpanOf conn rect width p (λ r. r ≡ p.y + 1) span
  span_below row first end =
      let within = columns_inside conn rect p left right columns inside in
      record {
        each = λ k here.
            let found =
            pixel_in_row rect width (p.y + 1) left right k row within.0 within.1
            (omega (arith, here.0, first)) (omega (arith, here.1, end)) in (
              found.0,
              found.1,
              found.2,
              inr (columns_near conn rect p found.0 left right columns (omega (arith, found.3)) found.4 found.5),
            );
        every = λ q inside_q near row_q.
            let at = near_columns conn rect p q left right columns inside_q near (omega (arith, row_q)) in
            let start : (rect.y + q.y) * width ≡ (rect.y + (p.y + 1)) * width = ap (λ r. (rect.y + r) * width) row_q in
            (omega (arith, start, first, at.0), omega (arith, start, end, at.1));
      }

-- the span of the pixel's own row
pub span_beside : (conn : Conn) (rect : Rect) (width : ℕ) (p : Pixel) (span : RowSpan) → IsInside rect.w rect.h p
    → span.first ≡ (rect.y + p.y) * width + first_beside rect (rect.x + p.x)
    → span.end ≡ (rect.y + p.y) * width + end_beside rect (rect.x + p.x)
    → IsSpanOf conn rect width p (λ r. r ≡ p.y) span
span_beside conn rect width p span inside first end = record {
  each = λ k here.
      let found =
      pixel_in_row rect width p.y (first_beside rect (rect.x + p.x)) (end_beside rect (rect.x + p.x)) k inside.1
      (omega (arith, inside.0)) (omega (arith, inside.0)) (omega (arith, here.0, first))
      (omega (arith, here.1, end)) in (
        found.0,
        found.1,
        found.2,
        beside_near conn p found.0 found.3 (omega (arith, found.5)) (omega (arith, found.4)),
      );
  every = λ q inside_q near row_q.
      let at = near_beside conn p q near in
      let start : (rect.y + q.y) * width ≡ (rect.y + p.y) * width = ap (λ r. (rect.y + r) * width) row_q in (
        omega (arith, start, first, at.0, at.1, inside_q.0),
        omega (arith, start, end, at.0, at.1, inside_q.0),
      );
}

-- the column and the row of a pixel, from its cell
pub column_of_cell : (rect : Rect) (width cell : ℕ) (p : Pixel) → rect.x + rect.w ≤ width → IsInside rect.w rect.h p
    → cell_of rect width p ≡ cell → cell % width ≡ rect.x + p.x
column_of_cell rect width cell p fits inside place =
    ap (λ n. n % width) (sym place)
    ∙ mod-mul-add (rect.y + p.y) width (rect.x + p.x) (omega (arith, inside.0, fits))

pub row_of_cell : (rect : Rect) (width cell : ℕ) (p : Pixel) → rect.x + rect.w ≤ width → IsInside rect.w rect.h p
    → cell_of rect width p ≡ cell → cell / width ≡ rect.y + p.y
row_of_cell rect width cell p fits inside place =
    ap (λ n. n / width) (sym place)
    ∙ div-mul-add (rect.y + p.y) width (rect.x + p.x) (omega (arith, inside.0, fits))

-- an image has no more rows than pixels
pub rows_within : (width rows : ℕ) → 0 < width → width * rows ≤ max_pixels → rows ≤ max_pixels
rows_within width rows some within = omega (arith, within, mul-le 1 rows width rows (omega arith) (omega arith))

-- nor do that many rows lie above a cell
pub rows_above_within : (rect : Rect) (width cell : ℕ) (p : Pixel) → rect.x + rect.w ≤ width → IsInside rect.w rect.h p
    → cell_of rect width p ≡ cell → width * (rect.y + rect.h) ≤ max_pixels → cell / width < max_pixels
rows_above_within rect width cell p fits inside place within =
    omega (
      arith,
      inside.1,
      row_of_cell rect width cell p fits inside place,
      rows_within width (rect.y + rect.h) (omega (arith, inside.0, fits)) within,
    )

-- the row of a cell ends within the image
pub row_within : (rect : Rect) (width cell : ℕ) (p : Pixel) → rect.x + rect.w ≤ width → IsInside rect.w rect.h p
    → cell_of rect width p ≡ cell → width * (rect.y + rect.h) ≤ max_pixels → cell - cell % width + width ≤ max_pixels
row_within rect width cell p fits inside place within =
    omega (
      arith,
      within,
      place,
      column_of_cell rect width cell p fits inside place,
      mul-le-mul_left width (let row : rect.y + p.y + 1 ≤ rect.y + rect.h = omega (arith, inside.1) in row),
    )
