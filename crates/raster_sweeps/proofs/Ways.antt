-- The way of a level along a column: a cell hands its level on to the next, and no pair is open but those that wait and
-- those that begin at the last cell of the way.
use Rattle.std.proofs.Common.{◌≡◌, ℕ, suc, ◌+◌, ◌-◌, ◌*◌, ◌/◌, ◌%◌, ◌<◌, ◌≤◌, ◌⊎◌, List, [], ◌∷◌, length, min, max}
use Rattle.std.proofs.Common.{get_or, Bool, true, false, sym, ◌∙◌, ap, subst, arith, inl, inr, refl, length-set}
use Rattle.std.proofs.Common.{MatchBool, Contains}
use Rattle.std.proofs.lemmas.Bool.{cases_eq, cases_order}
use Rattle.std.proofs.lemmas.List.{get_or-set_same, get_or-set_other}
use Rattle.std.proofs.lemmas.List.Elements.{Contains-append_cases, Contains-append_left, Contains-append_right}
use Rattle.grid_core.specs.{declared.conn.Conn.Conn, declared.conn.Conn.TheVariants.Four}
use Rattle.grid_core.specs.{declared.conn.Conn.TheVariants.Eight, declared.pixel.Pixel.Pixel, declared.rect.Rect.Rect}
use Rattle.grid_core.specs.{Neighbours.AreNeighbours, Raster.Raster, Raster.IsInside}
use Rattle.raster_sweeps.specs.Corridors.{HasPassed, HasRisenAlone, IsBehind, IsFollowed, IsWay}
use Rattle.raster_sweeps.specs.Growth.{AllWait, AreInside, CanClose, IsCellIn, cell_of}
use Rattle.raster_sweeps.specs.Spans.{AreAround, AreQueued, IsRaised}
use Rattle.raster_sweeps.proofs.Growing.{grown_nowhere}
use Rattle.raster_sweeps.proofs.{Grown.grown_twice, Raised.raised_rises}
use Rattle.raster_sweeps.proofs.RaisedBy.{cell_in_image, raised_grown, raised_waits, single}
use Rattle.raster_sweeps.proofs.Spans.{column_of_cell, near_beside, near_rows, row_of_cell}

-- what holds in each of two cases gives what follows there
pub match_map : {P Q R S : Type 0} → (P → R) → (Q → S) → (answer : Bool) → MatchBool answer P Q → MatchBool answer R S
match_map one other true holds = one holds
match_map one other false holds = other holds

-- ---- the way

-- the next pixel of the column
abbrev next_pixel : Pixel → Pixel → Pixel
next_pixel last here = record { x = here.x; y = here.y + here.y - last.y }

-- the cells of two pixels of a row lie as far apart as their columns
beside_in_row : (rect : Rect) (width : ℕ) (p q : Pixel) → q.y ≡ p.y
    → cell_of rect width q + p.x ≡ cell_of rect width p + q.x
beside_in_row rect width p q row =
    let same : (rect.y + q.y) * width ≡ (rect.y + p.y) * width = ap (λ y. (rect.y + y) * width) row in
    omega (arith, same)

-- from a cell away from the border of the rectangle a way leads down, and one up
module _ (rect : Rect) (width cell : ℕ) (p : Pixel) (columns : rect.x + rect.w ≤ width)
    (inside : IsInside rect.w rect.h p) (place : cell_of rect width p ≡ cell) (left : rect.x < cell % width)
    (right : cell % width + 1 < rect.x + rect.w) (top : rect.y < cell / width)
    (bottom : cell / width + 1 < rect.y + rect.h) where
  column : cell % width ≡ rect.x + p.x
  column = column_of_cell rect width cell p columns inside place

  row : cell / width ≡ rect.y + p.y
  row = row_of_cell rect width cell p columns inside place

  pub way_down : IsWay rect width (cell - width) cell (rect.y + rect.h - 1 - cell / width)
  way_down =
      let above : Pixel = record { x = p.x; y = p.y - 1 } in
      let under : p.y ≡ above.y + 1 = omega (arith, row, top) in
      let start : (rect.y + p.y) * width ≡ (rect.y + (above.y + 1)) * width = ap (λ y. (rect.y + y) * width) under in
      record {
        last = above;
        here = p;
        last_inside = (inside.0, omega (arith, inside.1));
        here_inside = inside;
        last_cell = omega (arith, place, start);
        here_cell = place;
        column = refl;
        left = omega (arith, column, left);
        right = omega (arith, column, right);
        rows = inl (under, omega (arith, row, bottom));
      }

  pub way_up : IsWay rect width (cell + width) cell (cell / width - rect.y)
  way_up = record {
    last = record { x = p.x; y = p.y + 1 };
    here = p;
    last_inside = (inside.0, omega (arith, row, bottom));
    here_inside = inside;
    last_cell = omega (arith, place);
    here_cell = place;
    column = refl;
    left = omega (arith, column, left);
    right = omega (arith, column, right);
    rows = inr (refl, omega (arith, row));
  }

-- the cells of a way, and those to their right, are cells of the image
pub way_in_image : {rect : Rect} {mask image : Raster} {behind cell count : ℕ} → CanClose rect mask image
    → IsWay rect image.width behind cell count
    → (behind + 1 < length image.cells) × (cell + 1 < length image.cells)
way_in_image {rect} {image = image} {behind} {cell} close way =
    let beside_last : IsCellIn rect image.width (behind + 1) = (
      record { x = way.last.x + 1; y = way.last.y },
      (omega (arith, way.column, way.right), way.last_inside.1),
      omega (arith, way.last_cell),
    ) in
    let beside_here : IsCellIn rect image.width (cell + 1) = (
      record { x = way.here.x + 1; y = way.here.y },
      (way.right, way.here_inside.1),
      omega (arith, way.here_cell),
    ) in
    (cell_in_image close beside_last, cell_in_image close beside_here)

module _ {rect : Rect} {width behind cell count : ℕ} (way : IsWay rect width behind cell (suc count)) where
  abbrev next : Pixel
  next = next_pixel way.last way.here

  -- where the next pixel lies
  next_row : ((next.y ≡ way.here.y + 1) × (next.y + count < rect.h)) ⊎ ((way.here.y ≡ next.y + 1) × (count ≤ next.y))
  next_row =
      elim way.rows [
        | inl down ↦ inl (omega (arith, down.0), omega (arith, down.0, down.1))
        | inr up ↦ inr (omega (arith, up.0, up.1), omega (arith, up.0, up.1))
      ]

  next_inside : IsInside rect.w rect.h next
  next_inside =
      elim next_row [
        | inl down ↦ (way.here_inside.0, omega (arith, down.1))
        | inr up ↦ (way.here_inside.0, omega (arith, up.0, way.here_inside.1))
      ]

  -- its cell lies as far beyond the cell as that lies from the one behind
  pub next_cell : cell_of rect width next ≡ cell + cell - behind
  next_cell =
      let from = way.last in
      let here = way.here in
      elim way.rows [
        | inl down ↦
            let ahead : next.y ≡ from.y + 1 + 1 = omega (arith, down.0) in
            let here_start : (rect.y + here.y) * width ≡ (rect.y + (from.y + 1)) * width =
            ap (λ y. (rect.y + y) * width) down.0 in
            let next_start : (rect.y + next.y) * width ≡ (rect.y + (from.y + 1 + 1)) * width =
            ap (λ y. (rect.y + y) * width) ahead in
            omega (arith, here_start, next_start, way.last_cell, way.here_cell, way.column)
        | inr up ↦
            let back : from.y ≡ next.y + 1 + 1 = omega (arith, up.0, up.1) in
            let behind_next : here.y ≡ next.y + 1 = omega (arith, up.0, up.1) in
            let from_start : (rect.y + from.y) * width ≡ (rect.y + (next.y + 1 + 1)) * width =
            ap (λ y. (rect.y + y) * width) back in
            let here_start : (rect.y + here.y) * width ≡ (rect.y + (next.y + 1)) * width =
            ap (λ y. (rect.y + y) * width) behind_next in
            omega (arith, from_start, here_start, way.last_cell, way.here_cell, way.column)
      ]

  -- the way goes on from there
  pub way_on : IsWay rect width cell (cell + cell - behind) count
  way_on = record {
    last = way.here;
    here = next;
    last_inside = way.here_inside;
    here_inside = next_inside;
    last_cell = way.here_cell;
    here_cell = next_cell;
    column = refl;
    left = way.left;
    right = way.right;
    rows = next_row;
  }

  -- the next pixel is a neighbour
  next_near : (conn : Conn) → AreNeighbours conn way.here next
  next_near Four = elim next_row [ inl down ↦ omega (arith, down.0) | inr up ↦ omega (arith, up.0) ]
  next_near Eight =
      elim next_row [
        | inl down ↦ (omega arith, omega (arith, down.0), omega (arith, down.0))
        | inr up ↦ (omega arith, omega (arith, up.0), omega (arith, up.0))
      ]

  -- a pixel lies at the cell behind, or at this one, or at the next one, or beside one of these
  rows_around : (conn : Conn) (q : Pixel) → (q ≡ way.here) ⊎ AreNeighbours conn way.here q
      → ((q.x ≤ way.here.x + 1) × (way.here.x ≤ q.x + 1))
      × ((q.y ≡ way.last.y) ⊎ ((q.y ≡ way.here.y) ⊎ (q.y ≡ next.y)))
  rows_around conn q near =
      elim near [
        | inl same ↦ (
          (omega (arith, ap (λ r. r.x) same), omega (arith, ap (λ r. r.x) same)),
          inr (inl (ap (λ r. r.y) same)),
        )
        | inr beside ↦ (
          near_beside conn way.here q beside,
          elim (near_rows conn way.here q beside) [
            | inr later ↦ elim later [
              | inl own ↦ inr (inl own)
              | inr below ↦ elim way.rows [
                | inl down ↦ inr (inr (omega (arith, below, down.0)))
                | inr up ↦ inl (omega (arith, below, up.0))
              ]
            ]
            | inl above ↦ elim way.rows [
              | inl down ↦ inl (omega (arith, above, down.0))
              | inr up ↦ inr (inr (omega (arith, above, up.0, up.1)))
            ]
          ],
        )
      ]

-- the cell, and the cells on either side of the next one, are cells of the image
pub way_within : {rect : Rect} {mask image : Raster} {behind cell count : ℕ} → CanClose rect mask image
    → IsWay rect image.width behind cell (suc count)
    → (cell < length image.cells) × (0 < cell + cell - behind) × (cell + cell - behind + 1 < length image.cells)
way_within close way =
    let within = way_in_image close (way_on way) in
    (omega (arith, within.0), omega (arith, next_cell way, way.left), within.1)

-- ---- a step of it

module _ {rect : Rect} {mask before : Raster} {after : List ℕ} {behind cell : ℕ}
    (close : CanClose rect mask before) (way : IsWay rect before.width behind cell 1)
    (last : IsBehind mask before behind cell)
    (alone : HasRisenAlone mask.cells (get_or before.cells cell 0) before.cells after (cell + cell - behind)) where
  abbrev level : ℕ
  level = get_or before.cells cell 0

  abbrev ahead : ℕ
  ahead = cell + cell - behind

  abbrev pub drawn : Raster
  drawn = record { width = before.width; height = before.height; cells = after }

  -- where the cells of a pixel and of its neighbours are
  abbrev IsNear : Conn → ℕ → Type 0
  IsNear conn k =
      (q : Pixel) × IsInside rect.w rect.h q × (cell_of rect before.width q ≡ k)
      × ((q ≡ way.here) ⊎ AreNeighbours conn way.here q)

  near_around : (conn : Conn) → AreAround conn rect before.width way.here (IsNear conn)
  near_around conn = record {
    each = λ k here. here;
    every = λ q inside near. (q, inside, refl, inr near);
  }

  -- the next cell is one of the image
  ahead_within : ahead < length before.cells
  ahead_within = cell_in_image close (next way, next_inside way, next_cell way)

  -- of these the next cell alone can rise
  near_stays : (conn : Conn) (k : ℕ) → IsNear conn k
      → (k ≡ ahead) ⊎ (min level (get_or mask.cells k 0) ≤ get_or before.cells k 0)
  near_stays conn k near =
      let q = near.0 in
      let width = before.width in
      let found = rows_around way conn q near.3 in
      let to_left : way.here.x ≤ q.x + 1 = found.0.1 in
      let to_right : q.x ≤ way.here.x + 1 = found.0.0 in
      elim found.1 [
        | inl back ↦
            let row = beside_in_row rect width way.last q back in
            inr (last.last k (omega (arith, row, near.2, way.last_cell, way.column, to_left, to_right))
            (omega (arith, row, near.2, way.last_cell, way.column, to_left, to_right)))
        | inr other ↦ elim other [
          | inl own ↦
              let row = beside_in_row rect width way.here q own in
              inr (last.beside k (omega (arith, row, near.2, way.here_cell, to_left, to_right))
              (omega (arith, row, near.2, way.here_cell, to_left, to_right)))
          | inr on ↦
              let row = beside_in_row rect width (next way) q on in
              let place = next_cell way in
              elim (cases_order q.x way.here.x) [
                | inl same ↦ inl (omega (arith, row, near.2, place, same))
                | inr aside ↦ elim aside [
                  | inl left ↦
                      let at : k ≡ ahead - 1 = omega (arith, row, near.2, place, left, to_left) in
                      inr (subst (λ i. min level (get_or mask.cells i 0) ≤ get_or before.cells i 0) (sym at) alone.left)
                  | inr right ↦
                      let at : k ≡ ahead + 1 = omega (arith, row, near.2, place, right, to_right) in
                      inr (subst (λ i. min level (get_or mask.cells i 0) ≤ get_or before.cells i 0) (sym at)
                      alone.right)
                ]
              ]
        ]
      ]

  -- the next cell has what the level can give it, and the others stay
  at_ahead : get_or after ahead 0 ≡ min level (get_or mask.cells ahead 0)
  at_ahead =
      ap (λ cells. get_or cells ahead 0) alone.raised
      ∙ get_or-set_same before.cells ahead (min level (get_or mask.cells ahead 0)) 0 ahead_within

  elsewhere : (k : ℕ) → (k ≡ ahead → ⊥) → get_or after k 0 ≡ get_or before.cells k 0
  elsewhere k other =
      ap (λ cells. get_or cells k 0) alone.raised
      ∙ get_or-set_other before.cells ahead k (min level (get_or mask.cells ahead 0)) 0 other

  near_raised : (conn : Conn) → IsRaised (IsNear conn) mask.cells level before.cells after
  near_raised conn = record {
    filled = ap length alone.raised ∙ length-set before.cells ahead (min level (get_or mask.cells ahead 0));
    raised = λ k near. elim (cases_eq k ahead) [
      | inl same ↦
          subst (λ i. get_or after i 0 ≡ max (get_or before.cells i 0) (min level (get_or mask.cells i 0))) (sym same)
          (omega (arith, at_ahead, alone.rises))
      | inr other ↦ elim (near_stays conn k near) [
        | inl same ↦ absurd (other same)
        | inr stays ↦ omega (arith, elsewhere k other, stays)
      ]
    ];
    each = λ k. elim (cases_eq k ahead) [
      | inr other ↦ inl (elsewhere k other)
      | inl same ↦ inr (
        (next way, next_inside way, next_cell way ∙ sym same, inr (next_near way conn)),
        subst (λ i. get_or after i 0 ≡ max (get_or before.cells i 0) (min level (get_or mask.cells i 0))) (sym same)
            (omega (arith, at_ahead, alone.rises)),
      )
    ];
  }

  -- it waits in the place of the cell
  near_queued : (conn : Conn) (others : List ℕ)
      → AreQueued (IsNear conn) mask.cells level before.cells others (ahead ∷ others)
  near_queued conn others = record {
    kept = λ i waits. Contains-append_right (ahead ∷ []) others i waits;
    added = λ k near lower. elim (near_stays conn k near) [
      | inl same ↦
          subst (Contains (ahead ∷ others)) (sym same)
          (Contains-append_left (ahead ∷ []) others ahead (0, omega arith, refl))
      | inr stays ↦ absurd (omega (arith, stays, lower))
    ];
  }

  own : level ≡ get_or before.cells (cell_of rect before.width way.here) 0
  own = ap (λ i. get_or before.cells i 0) (sym way.here_cell)

  followed : (conn : Conn) → IsFollowed conn rect mask before drawn cell ahead
  followed conn = record {
    grown = raised_grown close way.here_inside (near_around conn) own (near_raised conn);
    inside = (next way, next_inside way, next_cell way);
    waits = λ others waited.
        raised_waits close way.here_inside (near_around conn) own (near_raised conn) others
        (ahead ∷ others) (near_queued conn others)
        (subst (λ i. AllWait conn rect mask before (i ∷ others)) (sym way.here_cell) waited);
  }

  -- nothing behind it can rise
  nothing_behind : IsBehind mask drawn cell ahead
  nothing_behind =
      let rises = raised_rises (near_raised Four) in
      record {
        last = λ k from to. omega (arith, last.beside k from to, rises k, at_ahead);
        beside = λ k from to. elim (cases_order k ahead) [
          | inl same ↦
              subst (λ i. min (get_or after ahead 0) (get_or mask.cells i 0) ≤ get_or after i 0) (sym same)
              (omega (arith, at_ahead))
          | inr aside ↦ elim aside [
            | inl left ↦
                let at : k ≡ ahead - 1 = omega (arith, left, from) in
                let shut : min level (get_or mask.cells k 0) ≤ get_or before.cells k 0 =
                subst (λ i. min level (get_or mask.cells i 0) ≤ get_or before.cells i 0) (sym at) alone.left in
                omega (arith, shut, rises k, at_ahead)
            | inr right ↦
                let at : k ≡ ahead + 1 = omega (arith, right, to) in
                let shut : min level (get_or mask.cells k 0) ≤ get_or before.cells k 0 =
                subst (λ i. min level (get_or mask.cells i 0) ≤ get_or before.cells i 0) (sym at) alone.right in
                omega (arith, shut, rises k, at_ahead)
          ]
        ];
      }

  pub has_passed : HasPassed rect mask before drawn behind cell
  has_passed = record { followed = followed; shut = nothing_behind }

-- ---- the whole way

-- a cell that is not followed
pub followed_nowhere : {conn : Conn} {rect : Rect} {mask image : Raster} {cell : ℕ} → CanClose rect mask image
    → IsCellIn rect image.width cell → IsFollowed conn rect mask image image cell cell
followed_nowhere close inside = record {
  grown = grown_nowhere close;
  inside = inside;
  waits = λ others waited. waited;
}

-- a cell is followed, and then the last one of its way
pub followed_on : {conn : Conn} {rect : Rect} {mask before between after : Raster} {first middle last : ℕ}
    → IsFollowed conn rect mask before between first middle → IsFollowed conn rect mask between after middle last
    → IsFollowed conn rect mask before after first last
followed_on one other = record {
  grown = grown_twice one.grown other.grown;
  inside = other.inside;
  waits = λ others waited. other.waits others (one.waits others waited);
}

-- the last cell of the way lies inside, with those that waited
pub with_last_inside : {conn : Conn} {rect : Rect} {mask before after : Raster} {first last : ℕ} (others : List ℕ)
    → IsFollowed conn rect mask before after first last → AreInside rect before.width (first ∷ others)
    → AreInside rect after.width (last ∷ others)
with_last_inside {rect} {after} {first} {last} others followed inside i waits =
    elim (Contains-append_cases (last ∷ []) others i waits) [
      | inl here ↦ subst (IsCellIn rect after.width) (single last i here) followed.inside
      | inr later ↦
          subst (λ w. IsCellIn rect w i) (sym followed.grown.width)
          (inside i (Contains-append_right (first ∷ []) others i later))
    ]
