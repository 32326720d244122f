-- Pixels that are raised beside a pixel, and join a trail.
use Rattle.std.proofs.Common.{◌≡◌, ℕ, ◌+◌, ◌-◌, ◌*◌, ◌<◌, ◌≤◌, ◌⊎◌, List, length, sym, ◌∙◌, ap, subst, arith, inl, inr}
use Rattle.std.proofs.Common.{refl}
use Rattle.std.proofs.Common.{[], slice_index, true, ◌∷◌}
use Rattle.std.proofs.lemmas.{Bool.cases_eq, Bool.cases_order, List.Elements.Contains-append_cases, Nat.mul-le}
use Rattle.grid_core.specs.{declared.conn.Conn.Conn, declared.conn.Conn.TheVariants.Four}
use Rattle.grid_core.specs.{declared.conn.Conn.TheVariants.Eight, declared.pixel.Pixel.Pixel, declared.rect.Rect.Rect}
use Rattle.grid_core.specs.{Neighbours.AreNeighbours, Rects.IsInRect, Rects.in_image}
use Rattle.grid_core.specs.Raster.{Raster, index_of, max_pixels}
use Rattle.grid_core.proofs.{Cells.same_place, Pixels.same_pixel}
use Rattle.raster_sweeps.specs.Beside.{AreSpreadOn, CanJoin, HasCells, IsAbove, IsCellOf, IsInRow, IsInRowAbove}
use Rattle.raster_sweeps.specs.Beside.{IsInRowBelow, IsLeft, IsNear, IsRight, IsUnder, StandsAt}
use Rattle.raster_sweeps.specs.Growth.{AreInside, CanClose, CellHasSpread}
use Rattle.raster_sweeps.specs.{Spans.AreAround, Trail.Trail}
use Rattle.raster_sweeps.proofs.{Crosses.directions, Raised.spread_at, Raised.spread_none, Raised.spread_twice}
use Rattle.raster_sweeps.proofs.{Grown.fits_below, Grown.in_image-inside, Raised.spread_with}
use Rattle.raster_sweeps.proofs.RaisedBy.{cell_has_spread, in_image-in_rect, single}

-- ---- cells that are raised, and join

module _ {mask : List ℕ} {level : ℕ} where
  -- there is no such cell
  pub on_none : {at : ℕ → Type 0} {n : ℕ} (cells : List ℕ) (trail : Trail) → ((k : ℕ) → at k → ⊥)
      → AreSpreadOn at mask level cells cells trail trail n
  on_none cells trail none = record {
    spread = spread_none refl none;
    width = refl;
    room = omega arith;
  }

  -- cells are raised, and then others
  pub on_twice : {at other : ℕ → Type 0} {before between after : List ℕ} {old middle new : Trail} {m n : ℕ}
      → AreSpreadOn at mask level before between old middle m → AreSpreadOn other mask level between after middle new n
      → AreSpreadOn (λ k. at k ⊎ other k) mask level before after old new (m + n)
  on_twice first second = record {
    spread = spread_with (spread_twice first.spread second.spread) (λ all. (all, all)) (λ both. both.0);
    width = second.width ∙ first.width;
    room = omega (arith, first.room, second.room);
  }

  -- the same cells, said in another way
  pub on_at : {at other : ℕ → Type 0} {before after : List ℕ} {old new : Trail} {n : ℕ}
      → AreSpreadOn at mask level before after old new n → ((k : ℕ) → at k → other k) → ((k : ℕ) → other k → at k)
      → AreSpreadOn other mask level before after old new n
  on_at on to from = record {
    spread = spread_at on.spread to from;
    width = on.width;
    room = on.room;
  }

  -- the pixels are of a kind, said in another way
  pub on_kind : {is_such is_other : Pixel → Type 0} {before after : List ℕ} {old new : Trail} {n : ℕ} (rect : Rect)
      (width : ℕ)
      → AreSpreadOn (IsCellOf rect width is_such) mask level before after old new n
      → ((q : Pixel) → is_such q → is_other q) → ((q : Pixel) → is_other q → is_such q)
      → AreSpreadOn (IsCellOf rect width is_other) mask level before after old new n
  on_kind rect width on to from =
      on_at on (λ k at. (at.0, at.1, to at.0 at.2, at.3)) (λ k at. (at.0, at.1, from at.0 at.2, at.3))

  -- the one cell is that of the one pixel of a kind
  pub on_one : {cell : ℕ} {is_such : Pixel → Type 0} {before after : List ℕ} {old new : Trail} {n : ℕ} (rect : Rect)
      (width : ℕ) (q : Pixel)
      → AreSpreadOn (λ k. k ≡ cell) mask level before after old new n → IsInRect rect q → is_such q
      → ((r : Pixel) → is_such r → r ≡ q) → index_of width q ≡ cell
      → AreSpreadOn (IsCellOf rect width is_such) mask level before after old new n
  on_one rect width q on inside is only place =
      on_at on (λ k here. (q, inside, is, place ∙ sym here))
      (λ k found. sym found.3 ∙ ap (index_of width) (only found.0 found.2) ∙ place)

  -- the cells are those of an image of another width that is the same
  pub on_wide : {width wide n : ℕ} {is_such : Pixel → Type 0} {before after : List ℕ} {old new : Trail} (rect : Rect)
      → wide ≡ width → AreSpreadOn (IsCellOf rect wide is_such) mask level before after old new n
      → AreSpreadOn (IsCellOf rect width is_such) mask level before after old new n
  on_wide {n = n} {is_such} {before} {after} {old} {new} rect same on =
      subst (λ w. AreSpreadOn (IsCellOf rect w is_such) mask level before after old new n) same on

-- ---- where the cells are

-- a pixel of the rectangle has its cell among these
pub cell_within : {rect : Rect} {width : ℕ} {mask cells : List ℕ} (q : Pixel) → HasCells rect width mask cells
    → IsInRect rect q → index_of width q < length cells
cell_within {rect} {width} q has inside =
    omega (
      arith,
      inside.1,
      has.columns,
      has.within,
      mul-le (q.y + 1) width (rect.y + rect.h) width (omega (arith, inside.3)) (omega arith),
    )

module _ {rect : Rect} {mask cells : List ℕ} {trail : Trail} {cell : ℕ} {p : Pixel} {places : ℕ}
    (stands : StandsAt rect mask cells trail cell p places) where
  -- the pixel stands there still when some were raised
  pub stands_still : {at : ℕ → Type 0} {level : ℕ} {after : List ℕ} {new : Trail} {n : ℕ} (left : ℕ)
      → AreSpreadOn at mask level cells after trail new n → left + n ≤ places
      → StandsAt rect mask after new cell p left
  stands_still {after = after} left on room = record {
    has =
        subst (λ w. HasCells rect w mask after) (sym on.width)
        (record {
          columns = stands.has.columns;
          width_within = stands.has.width_within;
          rows_within = stands.has.rows_within;
          within = omega (arith, stands.has.within, on.spread.raised.filled);
          cells_within = omega (arith, stands.has.cells_within, on.spread.raised.filled);
          same = omega (arith, stands.has.same, on.spread.raised.filled);
        });
    inside = stands.inside;
    place = ap (λ w. index_of w p) on.width ∙ stands.place;
    room = omega (arith, stands.room, on.room, room);
  }

  -- so does another pixel of the rectangle
  pub stands_there : {other : ℕ} (q : Pixel) (left : ℕ) → IsInRect rect q → index_of trail.width q ≡ other
      → left ≤ places → StandsAt rect mask cells trail other q left
  stands_there q left inside place room = record {
    has = stands.has;
    inside = inside;
    place = place;
    room = omega (arith, stands.room, room);
  }

  -- the cell is one of an image
  pub stands_within : (cell < length cells) × (length cells ≤ max_pixels)
  stands_within = (omega (arith, stands.place, cell_within p stands.has stands.inside), stands.has.cells_within)

  -- a pixel of the rectangle may join
  pub can_join : {other : ℕ} (q : Pixel) → IsInRect rect q → index_of trail.width q ≡ other → 0 < places
      → CanJoin mask cells trail other q
  can_join q inside place some = record {
    within = omega (arith, place, cell_within q stands.has inside);
    same = stands.has.same;
    place = place;
    column = omega (arith, inside.1, stands.has.columns);
    row = omega (arith, inside.3, stands.has.rows_within);
    room = omega (arith, stands.room, some);
  }

-- the row above begins as many cells earlier as there are columns
pub row_above : (y width : ℕ) → 0 < y → (y - 1) * width + width ≡ y * width
row_above y width some =
    let next : y - 1 + 1 ≡ y = omega (arith, some) in
    let start : (y - 1 + 1) * width ≡ y * width = ap (λ r. r * width) next in
    omega (arith, start)

-- ---- pixels of several kinds

module _ (rect : Rect) (width : ℕ) {cell : ℕ} (p : Pixel) (inside : IsInRect rect p)
    (place : index_of width p ≡ cell) where
  -- a pixel and those left and right of it
  pub to_row : (k : ℕ)
      → (IsCellOf rect width (IsLeft p) k ⊎ (k ≡ cell)) ⊎ IsCellOf rect width (IsRight p) k
      → IsCellOf rect width (IsInRow p) k
  to_row k here = elim here [
    | inl earlier ↦ elim earlier [
      | inl at ↦ (at.0, at.1, (omega (arith, at.2.0), at.2.1), at.3)
      | inr own ↦ (p, inside, (omega arith, refl), place ∙ sym own)
    ]
    | inr at ↦ (at.0, at.1, (omega (arith, at.2.0), at.2.1), at.3)
  ]

  pub from_row : (k : ℕ) → IsCellOf rect width (IsInRow p) k
      → (IsCellOf rect width (IsLeft p) k ⊎ (k ≡ cell)) ⊎ IsCellOf rect width (IsRight p) k
  from_row k at =
      let q = at.0 in
      let row : q.y * width ≡ p.y * width = ap (λ r. r * width) at.2.1 in
      elim (cases_order q.x p.x) [
        | inl same ↦ inl (inr (omega (arith, at.3, row, same, place)))
        | inr other ↦ elim other [
          | inl less ↦ inl (inl (q, at.1, (omega (arith, less, at.2.0), at.2.1), at.3))
          | inr more ↦ inr (q, at.1, (omega (arith, more, at.2.0), at.2.1), at.3)
        ]
      ]

module _ (rect : Rect) (width : ℕ) (p : Pixel) where
  -- the four neighbours of a pixel
  pub to_four : (k : ℕ)
      → (IsCellOf rect width (IsAbove p) k ⊎ IsCellOf rect width (IsLeft p) k)
      ⊎ (IsCellOf rect width (IsRight p) k ⊎ IsCellOf rect width (IsUnder p) k)
      → IsCellOf rect width (AreNeighbours Four p) k
  to_four k here = elim here [
    | inl first ↦ elim first [
      | inl at ↦ (at.0, at.1, omega (arith, at.2.0, at.2.1), at.3)
      | inr at ↦ (at.0, at.1, omega (arith, at.2.0, at.2.1), at.3)
    ]
    | inr second ↦ elim second [
      | inl at ↦ (at.0, at.1, omega (arith, at.2.0, at.2.1), at.3)
      | inr at ↦ (at.0, at.1, omega (arith, at.2.0, at.2.1), at.3)
    ]
  ]

  pub from_four : (k : ℕ) → IsCellOf rect width (AreNeighbours Four p) k
      → (IsCellOf rect width (IsAbove p) k ⊎ IsCellOf rect width (IsLeft p) k)
      ⊎ (IsCellOf rect width (IsRight p) k ⊎ IsCellOf rect width (IsUnder p) k)
  from_four k at = elim (directions p at.0 at.2) [
    | inl first ↦ elim first [
      | inl is ↦ inl (inl (at.0, at.1, is, at.3))
      | inr is ↦ inl (inr (at.0, at.1, is, at.3))
    ]
    | inr second ↦ elim second [
      | inl is ↦ inr (inl (at.0, at.1, is, at.3))
      | inr is ↦ inr (inr (at.0, at.1, is, at.3))
    ]
  ]

  -- the pixels around a pixel, in three rows
  pub to_near : (k : ℕ)
      → (IsCellOf rect width (IsInRowAbove p) k ⊎ IsCellOf rect width (IsInRow p) k)
      ⊎ IsCellOf rect width (IsInRowBelow p) k
      → IsCellOf rect width (IsNear p) k
  to_near k here = elim here [
    | inl earlier ↦ elim earlier [
      | inl at ↦ (at.0, at.1, (at.2.0, omega (arith, at.2.1)), at.3)
      | inr at ↦ (at.0, at.1, (at.2.0, omega (arith, at.2.1)), at.3)
    ]
    | inr at ↦ (at.0, at.1, (at.2.0, omega (arith, at.2.1)), at.3)
  ]

  pub from_near : (k : ℕ) → IsCellOf rect width (IsNear p) k
      → (IsCellOf rect width (IsInRowAbove p) k ⊎ IsCellOf rect width (IsInRow p) k)
      ⊎ IsCellOf rect width (IsInRowBelow p) k
  from_near k at =
      elim (cases_order at.0.y p.y) [
        | inl same ↦ inl (inr (at.0, at.1, (at.2.0, same), at.3))
        | inr other ↦ elim other [
          | inl less ↦ inl (inl (at.0, at.1, (at.2.0, omega (arith, less, at.2.1)), at.3))
          | inr more ↦ inr (at.0, at.1, (at.2.0, omega (arith, more, at.2.1)), at.3)
        ]
      ]

-- ---- the same, counted from the corner of a rectangle

-- pixels counted from the corner are neighbours as they are in the image
neighbours_in_image : (conn : Conn) (rect : Rect) (p q : Pixel) → AreNeighbours conn p q
    → AreNeighbours conn (in_image rect p) (in_image rect q)
neighbours_in_image Four rect p q beside = omega (arith, beside)
neighbours_in_image Eight rect p q beside =
    (omega (arith, beside.0), omega (arith, beside.1), omega (arith, beside.2))

neighbours_from_image : (conn : Conn) (rect : Rect) (p q : Pixel)
    → AreNeighbours conn (in_image rect p) (in_image rect q) → AreNeighbours conn p q
neighbours_from_image Four rect p q beside = omega (arith, beside)
neighbours_from_image Eight rect p q beside =
    (omega (arith, beside.0), omega (arith, beside.1), omega (arith, beside.2))

-- pixels that are its neighbours, or it, and all of its neighbours, are around a pixel
pub around_of : (conn : Conn) (rect : Rect) (width : ℕ) (p : Pixel) (is_such : Pixel → Type 0)
    → ((q : Pixel) → is_such q → (q ≡ in_image rect p) ⊎ AreNeighbours conn (in_image rect p) q)
    → ((q : Pixel) → AreNeighbours conn (in_image rect p) q → is_such q)
    → AreAround conn rect width p (IsCellOf rect width is_such)
around_of conn rect width p is_such near such = record {
  each = λ k at.
      let r : Pixel = record { x = at.0.x - rect.x; y = at.0.y - rect.y } in
      let same : in_image rect r ≡ at.0 =
      same_pixel (in_image rect r) at.0 (omega (arith, at.1.0)) (omega (arith, at.1.2)) in (
        r,
        (omega (arith, at.1.0, at.1.1), omega (arith, at.1.2, at.1.3)),
        ap (index_of width) same ∙ at.3,
        elim (near at.0 at.2) [
          | inl own ↦ inl (same_pixel r p (omega (arith, ap (λ s. s.x) own)) (omega (arith, ap (λ s. s.y) own)))
          | inr beside ↦
              inr (neighbours_from_image conn rect p r
              (subst (AreNeighbours conn (in_image rect p)) (sym same) beside))
        ],
      );
  every = λ q inside beside. (
    in_image rect q,
    in_image-in_rect rect q inside,
    such (in_image rect q) (neighbours_in_image conn rect p q beside),
    refl,
  );
}

-- a pixel that is near another is that one, or its neighbour
pub near_is : (p q : Pixel) → IsNear p q → (q ≡ p) ⊎ AreNeighbours Eight p q
near_is p q near =
    elim (cases_eq q.x p.x) [
      | inr other ↦ inr (near.0, near.1, omega (arith, other))
      | inl column ↦ elim (cases_eq q.y p.y) [
        | inr other ↦ inr (near.0, near.1, omega (arith, other))
        | inl row ↦ inl (same_pixel q p column row)
      ]
    ]

-- the cell of a pixel of the rectangle is one of it, as those that wait are
with_pixel_inside : (rect : Rect) (width : ℕ) (pixel : Pixel) (waiting : List ℕ) → IsInRect rect pixel
    → AreInside rect width waiting → AreInside rect width (index_of width pixel ∷ waiting)
with_pixel_inside rect width pixel waiting inside are_inside i waits =
    elim (Contains-append_cases (index_of width pixel ∷ []) waiting i waits) [
      | inr later ↦ are_inside i later
      | inl first ↦
          let p : Pixel = record { x = pixel.x - rect.x; y = pixel.y - rect.y } in
          let same : in_image rect p ≡ pixel =
          same_pixel (in_image rect p) pixel (omega (arith, inside.0)) (omega (arith, inside.2)) in (
            p,
            (omega (arith, inside.0, inside.1), omega (arith, inside.2, inside.3)),
            ap (index_of width) same ∙ single (index_of width pixel) i first,
          )
    ]

module _ {rect : Rect} {mask before : Raster} {trail : Trail} {pixel : Pixel} (close : CanClose rect mask before)
    (inside : IsInRect rect pixel) (wide : trail.width ≡ before.width) where
  -- where an image may grow, a pixel of the rectangle stands at its cell
  pub can_stand : (places : ℕ) → places ≤ trail.places
      → StandsAt rect mask.cells before.cells trail (index_of before.width pixel) pixel places
  can_stand places room =
      let fits = fits_below close.below close.fits in
      record {
        has =
            subst (λ w. HasCells rect w mask.cells before.cells) (sym wide)
            (record {
              columns = fits.columns;
              width_within = close.size.width_within;
              rows_within = omega (arith, fits.rows, close.size.height_within);
              within =
                  omega (
                    arith,
                    close.filled,
                    mul-le (rect.y + rect.h) before.width before.height before.width fits.rows (omega arith),
                  );
              cells_within = omega (arith, close.filled, close.size.pixels_within);
              same =
                  close.mask_filled ∙ ap (λ w. w * mask.height) (sym close.below.width)
                  ∙ ap (λ h. before.width * h) (sym close.below.height) ∙ sym close.filled;
            });
        inside = inside;
        place = ap (λ w. index_of w pixel) wide;
        room = room;
      }

  -- where its neighbours were raised by it, its cell has spread
  pub pixel_has_spread : {conn : Conn} {is_such : Pixel → Type 0} {after : List ℕ} {new : Trail} {n : ℕ}
      → AreInside rect before.width trail.cells
      → ((q : Pixel) → is_such q → (q ≡ pixel) ⊎ AreNeighbours conn pixel q)
      → ((q : Pixel) → AreNeighbours conn pixel q → is_such q)
      → AreSpreadOn (IsCellOf rect before.width is_such) mask.cells
      (slice_index before.cells (index_of before.width pixel)) before.cells after trail new n
      → CellHasSpread conn rect mask before (record { width = before.width; height = before.height; cells = after })
      (index_of before.width pixel) trail.cells new.cells true
  pixel_has_spread {conn} {is_such} waiting near such on =
      let fits = fits_below close.below close.fits in
      cell_has_spread close (with_pixel_inside rect before.width pixel trail.cells inside waiting) (λ p inside_p place.
      let same : in_image rect p ≡ pixel =
      same_place before.width before.height (in_image rect p) pixel (in_image-inside p fits inside_p)
      (omega (arith, inside.1, fits.columns), omega (arith, inside.3, fits.rows)) place in
      around_of conn rect before.width p is_such
      (λ q is. subst (λ r. (q ≡ r) ⊎ AreNeighbours conn r q) (sym same) (near q is))
      (λ q beside. such q (subst (λ r. AreNeighbours conn r q) same beside))) on.spread
