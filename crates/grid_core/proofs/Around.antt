-- The rows around a pixel hold its neighbours, and no other pixel.
use Rattle.std.proofs.Common.{◌≡◌, ℕ, ◌+◌, ◌-◌, ◌<◌, ◌≤◌, Bool, true, false, List, [], ◌++◌, refl, ap, subst, arith}
use Rattle.std.proofs.Common.{inl, inr, ◌⊎◌, rules, ◌&&◌, nat_lt, if◌then◌else◌, Contains}
use Rattle.std.proofs.lemmas.Bool.{cases_lt, ltb-true, lt-ltb}
use Rattle.std.proofs.lemmas.List.Elements.{Contains-append_left, Contains-append_right, Contains-append_cases}
use Rattle.std.proofs.lemmas.List.Elements.{Contains-push_cases}
use Rattle.grid_core.specs.{declared.conn.Conn.Conn, declared.pixel.Pixel.Pixel, Raster.IsInside}
use Rattle.grid_core.specs.declared.conn.Conn.TheVariants.{Four, Eight}
use Rattle.grid_core.specs.Neighbours.{apart, AreNeighbours, IsInRasterOrder}
use Rattle.grid_core.specs.Rows.{has_diagonals, pixel_if, row_around, rows_around}
use Rattle.grid_core.proofs.{Common.both_true, Common.true_and, Common.not_in_empty, Pixels.same_pixel}

-- ---- one pixel, or none

in_pixel_if : (b : Bool) (x y : ℕ) (q : Pixel) → Contains (pixel_if b x y) q → (b ≡ true) × (x ≡ q.x) × (y ≡ q.y)
in_pixel_if true x y q h = elim (Contains-push_cases [] (record { x = x; y = y }) q h) [
  | inl none ↦ absurd (not_in_empty q none)
  | inr same ↦ (refl, ap (λ (p : Pixel). p.x) same, ap (λ (p : Pixel). p.y) same)
]
in_pixel_if false x y q h = absurd (not_in_empty q h)

pixel_if_has : (b : Bool) (x y : ℕ) (q : Pixel) → b ≡ true → x ≡ q.x → y ≡ q.y → Contains (pixel_if b x y) q
pixel_if_has true x y q h same_x same_y = (0, omega arith, same_pixel (record { x = x; y = y }) q same_x same_y)
pixel_if_has false x y q h same_x same_y = absurd cc

-- ---- one row

-- which pixels stand in a row around column x
pub record IsInRow (width x y : ℕ) (sides middle : Bool) (q : Pixel) : Type 0 where
  pub row : y ≡ q.y
  pub column : ((sides ≡ true) × (q.x + 1 ≡ x))
      ⊎ (((middle ≡ true) × (q.x ≡ x)) ⊎ ((sides ≡ true) × (q.x ≡ x + 1) × (q.x < width)))

in_row : (width x y : ℕ) (sides middle : Bool) (q : Pixel) → Contains (row_around width x y sides middle) q
    → IsInRow width x y sides middle q
in_row width x y sides middle q h =
    elim (Contains-append_cases (pixel_if (sides && nat_lt 0 x) (x - 1) y ++ pixel_if middle x y)
    (pixel_if (sides && nat_lt (x + 1) width) (x + 1) y) q h) [
      | inl front ↦ elim (Contains-append_cases (pixel_if (sides && nat_lt 0 x) (x - 1) y)
          (pixel_if middle x y) q front) [
            | inl left ↦
                let found = in_pixel_if (sides && nat_lt 0 x) (x - 1) y q left in
                let tests = both_true sides (nat_lt 0 x) found.0 in
                let positive : 0 < x = ltb-true 0 x tests.1 in
                record { row = found.2; column = inl (tests.0, omega arith) }
            | inr centre ↦
                let found = in_pixel_if middle x y q centre in
                record { row = found.2; column = inr (inl (found.0, omega arith)) }
          ]
      | inr right ↦
          let found = in_pixel_if (sides && nat_lt (x + 1) width) (x + 1) y q right in
          let tests = both_true sides (nat_lt (x + 1) width) found.0 in
          let within : x + 1 < width = ltb-true (x + 1) width tests.1 in
          record { row = found.2; column = inr (inr (tests.0, omega arith, omega arith)) }
    ]

row_has : (width x y : ℕ) (sides middle : Bool) (q : Pixel) → IsInRow width x y sides middle q
    → Contains (row_around width x y sides middle) q
row_has width x y sides middle q h =
    let lefts = pixel_if (sides && nat_lt 0 x) (x - 1) y in
    let centres = pixel_if middle x y in
    let rights = pixel_if (sides && nat_lt (x + 1) width) (x + 1) y in
    elim h.column [
      | inl left ↦
          let test : sides && nat_lt 0 x ≡ true = true_and sides (nat_lt 0 x) left.0 (lt-ltb 0 x (omega arith)) in
          Contains-append_left (lefts ++ centres) rights q
          (Contains-append_left lefts centres q (pixel_if_has (sides && nat_lt 0 x) (x - 1) y q test
          (omega arith) h.row))
      | inr other ↦ elim other [
        | inl centre ↦
            Contains-append_left (lefts ++ centres) rights q
            (Contains-append_right lefts centres q (pixel_if_has middle x y q centre.0 (omega arith) h.row))
        | inr right ↦
            let test : sides && nat_lt (x + 1) width ≡ true =
            true_and sides (nat_lt (x + 1) width) right.0 (lt-ltb (x + 1) width (omega arith)) in
            Contains-append_right (lefts ++ centres) rights q
            (pixel_if_has (sides && nat_lt (x + 1) width) (x + 1) y q test (omega arith) h.row)
      ]
    ]

-- ---- a row that may be missing

in_if : (b : Bool) (ps : List Pixel) (q : Pixel) → Contains (if b then ps else []) q → (b ≡ true) × Contains ps q
in_if true ps q h = (refl, h)
in_if false ps q h = absurd (not_in_empty q h)

if_has : (b : Bool) (ps : List Pixel) (q : Pixel) → b ≡ true → Contains ps q → Contains (if b then ps else []) q
if_has true ps q e h = h
if_has false ps q e h = absurd cc

-- ---- all rows

-- a pixel of the row above or below is a neighbour, by a corner only where diagonals are
beside_row : (conn : Conn) (w h : ℕ) (p q : Pixel) (y : ℕ) → IsInside w h p → apart p.y y ≡ 1 → y < h
    → IsInRow w p.x y (has_diagonals conn) true q → AreNeighbours conn p q × IsInside w h q
beside_row Four w h p q y inside near within found = elim found.column [
  | inl left ↦ absurd (let no : false ≡ true = left.0 in cc)
  | inr other ↦ elim other [
    | inl centre ↦ (omega (arith, centre.1, found.row), (omega (arith, centre.1), omega (arith, found.row)))
    | inr right ↦ absurd (let no : false ≡ true = right.0 in cc)
  ]
]
beside_row Eight w h p q y inside near within found = elim found.column [
  | inl left ↦ (
    (omega (arith, left.1), omega (arith, found.row), omega (arith, left.1, found.row)),
    (omega (arith, left.1), omega (arith, found.row)),
  )
  | inr other ↦ elim other [
    | inl centre ↦ (
      (omega (arith, centre.1), omega (arith, found.row), omega (arith, centre.1, found.row)),
      (omega (arith, centre.1), omega (arith, found.row)),
    )
    | inr right ↦ (
      (omega (arith, right.1), omega (arith, found.row), omega (arith, right.1, found.row)),
      (omega (arith, right.2), omega (arith, found.row)),
    )
  ]
]

own_row : (conn : Conn) (w h : ℕ) (p q : Pixel) → IsInside w h p → IsInRow w p.x p.y true false q
    → AreNeighbours conn p q × IsInside w h q
own_row Four w h p q inside found = elim found.column [
  | inl left ↦ (omega (arith, left.1, found.row), (omega (arith, left.1), omega (arith, found.row)))
  | inr other ↦ elim other [
    | inl centre ↦ absurd (let no : false ≡ true = centre.0 in cc)
    | inr right ↦ (omega (arith, right.1, found.row), (omega (arith, right.2), omega (arith, found.row)))
  ]
]
own_row Eight w h p q inside found = elim found.column [
  | inl left ↦ (
    (omega (arith, left.1), omega (arith, found.row), omega (arith, left.1, found.row)),
    (omega (arith, left.1), omega (arith, found.row)),
  )
  | inr other ↦ elim other [
    | inl centre ↦ absurd (let no : false ≡ true = centre.0 in cc)
    | inr right ↦ (
      (omega (arith, right.1), omega (arith, found.row), omega (arith, right.1, found.row)),
      (omega (arith, right.2), omega (arith, found.row)),
    )
  ]
]

-- every pixel of the rows is a neighbour inside
pub around_are_neighbours : (conn : Conn) (w h : ℕ) (p q : Pixel) → IsInside w h p → Contains (rows_around conn w h p) q
    → AreNeighbours conn p q × IsInside w h q
around_are_neighbours conn w h p q inside found =
    let above = if nat_lt 0 p.y then row_around w p.x (p.y - 1) (has_diagonals conn) true else [] in
    let own = row_around w p.x p.y true false in
    let below = if nat_lt (p.y + 1) h then row_around w p.x (p.y + 1) (has_diagonals conn) true else [] in
    elim (Contains-append_cases (above ++ own) below q found) [
      | inl front ↦ elim (Contains-append_cases above own q front) [
        | inl up ↦
            let there = in_if (nat_lt 0 p.y) (row_around w p.x (p.y - 1) (has_diagonals conn) true) q up in
            let positive : 0 < p.y = ltb-true 0 p.y there.0 in
            beside_row conn w h p q (p.y - 1) inside (omega arith) (omega (arith, inside))
            (in_row w p.x (p.y - 1) (has_diagonals conn) true q there.1)
        | inr here ↦ own_row conn w h p q inside (in_row w p.x p.y true false q here)
      ]
      | inr down ↦
          let there = in_if (nat_lt (p.y + 1) h) (row_around w p.x (p.y + 1) (has_diagonals conn) true) q down in
          let within : p.y + 1 < h = ltb-true (p.y + 1) h there.0 in
          beside_row conn w h p q (p.y + 1) inside (omega arith) within
          (in_row w p.x (p.y + 1) (has_diagonals conn) true q there.1)
    ]

-- a neighbour in another row stands in that row's columns
beside_columns : (conn : Conn) (w h : ℕ) (p q : Pixel) → AreNeighbours conn p q → IsInside w h q → (q.y ≡ p.y → ⊥)
    → IsInRow w p.x q.y (has_diagonals conn) true q
beside_columns Four w h p q beside inside other =
    record { row = refl; column = let same : q.x ≡ p.x = omega arith in inr (inl (refl, same)) }
beside_columns Eight w h p q beside inside other = record {
  row = refl;
  column = elim (cases_lt q.x p.x) [
    | inl less ↦ let e : q.x + 1 ≡ p.x = omega (arith, beside) in inl (refl, e)
    | inr at_least ↦ elim (cases_lt p.x q.x) [
      | inl more ↦ let e : q.x ≡ p.x + 1 = omega (arith, beside) in inr (inr (refl, e, inside.0))
      | inr at_most ↦ let e : q.x ≡ p.x = omega arith in inr (inl (refl, e))
    ]
  ];
}

own_columns : (conn : Conn) (w h : ℕ) (p q : Pixel) → AreNeighbours conn p q → IsInside w h q → q.y ≡ p.y
    → IsInRow w p.x p.y true false q
own_columns Four w h p q beside inside same = record {
  row = omega arith;
  column = elim (cases_lt q.x p.x) [
    | inl less ↦ let e : q.x + 1 ≡ p.x = omega arith in inl (refl, e)
    | inr at_least ↦ let e : q.x ≡ p.x + 1 = omega arith in inr (inr (refl, e, inside.0))
  ];
}
own_columns Eight w h p q beside inside same = record {
  row = omega arith;
  column = elim (cases_lt q.x p.x) [
    | inl less ↦ let e : q.x + 1 ≡ p.x = omega (arith, beside) in inl (refl, e)
    | inr at_least ↦ let e : q.x ≡ p.x + 1 = omega (arith, beside) in inr (inr (refl, e, inside.0))
  ];
}

-- neighbours lie in rows that are next to one another
rows_apart : (conn : Conn) (p q : Pixel) → AreNeighbours conn p q → apart p.y q.y ≤ 1
rows_apart Four p q beside = omega arith
rows_apart Eight p q beside = beside.1

-- the rows hold every neighbour inside
pub neighbours_are_around : (conn : Conn) (w h : ℕ) (p q : Pixel) → AreNeighbours conn p q → IsInside w h q
    → Contains (rows_around conn w h p) q
neighbours_are_around conn w h p q beside inside =
    let near = rows_apart conn p q beside in
    let above = if nat_lt 0 p.y then row_around w p.x (p.y - 1) (has_diagonals conn) true else [] in
    let own = row_around w p.x p.y true false in
    let below = if nat_lt (p.y + 1) h then row_around w p.x (p.y + 1) (has_diagonals conn) true else [] in
    elim (cases_lt q.y p.y) [
      | inl up ↦
          let row : q.y ≡ p.y - 1 = omega arith in
          let place : IsInRow w p.x (p.y - 1) (has_diagonals conn) true q =
          subst (λ y. IsInRow w p.x y (has_diagonals conn) true q) row
          (beside_columns conn w h p q beside inside (λ e. omega (arith, e))) in
          Contains-append_left (above ++ own) below q (Contains-append_left above own q
          (if_has (nat_lt 0 p.y) (row_around w p.x (p.y - 1) (has_diagonals conn) true) q (lt-ltb 0 p.y (omega arith))
          (row_has w p.x (p.y - 1) (has_diagonals conn) true q place)))
      | inr not_up ↦ elim (cases_lt p.y q.y) [
        | inl down ↦
            let row : q.y ≡ p.y + 1 = omega arith in
            let place : IsInRow w p.x (p.y + 1) (has_diagonals conn) true q =
            subst (λ y. IsInRow w p.x y (has_diagonals conn) true q) row
            (beside_columns conn w h p q beside inside (λ e. omega (arith, e))) in
            Contains-append_right (above ++ own) below q
            (if_has (nat_lt (p.y + 1) h) (row_around w p.x (p.y + 1) (has_diagonals conn) true) q
            (lt-ltb (p.y + 1) h (omega (arith, inside))) (row_has w p.x (p.y + 1) (has_diagonals conn) true q
            place))
        | inr not_down ↦
            let row : q.y ≡ p.y = omega arith in
            Contains-append_left (above ++ own) below q (Contains-append_right above own q
            (row_has w p.x p.y true false q (own_columns conn w h p q beside inside row)))
      ]
    ]

-- the rows stand in raster order
pub around_in_order : (conn : Conn) (w h : ℕ) (p : Pixel) → IsInRasterOrder (rows_around conn w h p)
around_in_order conn w h p = search rules
