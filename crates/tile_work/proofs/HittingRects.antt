-- Pixels in rectangles, row by row and pixel by pixel, and rectangles near each other.
use Rattle.std.proofs.Common.{◌≡◌, ℕ, ◌+◌, ◌<◌, ◌≤◌, inl, inr, true, false, arith, refl, subst, ◌↔◌, IsTrue}
use Rattle.std.proofs.lemmas.Bool.{cases_lt}
use Rattle.grid_core.specs.{declared.conn.Conn.Conn, declared.pixel.Pixel.Pixel, declared.rect.Rect.Rect, Raster.Raster}
use Rattle.grid_core.specs.{Neighbours.AreNeighbours, Rects.IsInRect}
use Rattle.grid_core.specs.declared.conn.Conn.TheVariants.{Four, Eight}
use Rattle.tile_work.specs.Marks.{SomeIn, IsLight, IsLightBeside, IsLinkedInto, IsNear, pixels_upto}

-- ---- answers

pub yes_where : (X : Type 0) → X → IsTrue true ↔ X
yes_where X x = (λ held. x, λ any. refl)

pub no_where : (X : Type 0) → (X → ⊥) → IsTrue false ↔ X
no_where X none = (λ gone. let e : false ≡ true = gone in absurd cc, λ x. absurd (none x))

-- ---- rows and columns of a rectangle

-- the first rows of a rectangle
abbrev pub rows_upto : Rect → ℕ → Rect
rows_upto rect n = record rect { h = n }

-- one row of it
abbrev pub row_at : Rect → ℕ → Rect
row_at rect i = record { x = rect.x; y = rect.y + i; w = rect.w; h = 1 }

module _ (P : Pixel → Type 0) (rect : Rect) where
  pub none_in_all_rows : (i : ℕ) → rect.h ≤ i → (SomeIn (rows_upto rect i) P → ⊥) → SomeIn rect P → ⊥
  none_in_all_rows i past none (p, inside, has) =
      none (p, (inside.0, inside.1, inside.2, omega (arith, inside.3, past)), has)

  pub some_in_row : (i : ℕ) → i < rect.h → SomeIn (row_at rect i) P → SomeIn rect P
  some_in_row i within (p, inside, has) =
      (p, (inside.0, inside.1, omega (arith, inside.2), omega (arith, inside.3, within)), has)

at_pixel : (p : Pixel) (x y : ℕ) → p.x ≡ x → p.y ≡ y → p ≡ record { x = x; y = y }
at_pixel p x y a b = λ i. record { x = a i; y = b i }

module _ (P : Pixel → Type 0) (x y : ℕ) where
  pub none_in_more_pixels : (i : ℕ) → (SomeIn (pixels_upto x y i) P → ⊥) → (P (record { x = x + i; y = y }) → ⊥)
      → SomeIn (pixels_upto x y (i + 1)) P → ⊥
  none_in_more_pixels i before here (p, inside, has) = elim (cases_lt p.x (x + i)) [
    | inl lower ↦ before (p, (inside.0, lower, inside.2, inside.3), has)
    | inr past ↦ here (subst P (at_pixel p (x + i) y (omega (arith, inside.1)) (omega (arith, inside.2, inside.3))) has)
  ]

  pub none_in_all_pixels : (w i : ℕ) → w ≤ i → (SomeIn (pixels_upto x y i) P → ⊥) → SomeIn (pixels_upto x y w) P → ⊥
  none_in_all_pixels w i past none (p, inside, has) =
      none (p, (inside.0, omega (arith, inside.1, past), inside.2, inside.3), has)

  pub some_at_pixel : (w i : ℕ) → i < w → P (record { x = x + i; y = y }) → SomeIn (pixels_upto x y w) P
  some_at_pixel w i within has =
      (record { x = x + i; y = y }, (omega arith, omega (arith, within), omega arith, omega arith), has)

-- ---- neighbours are near

pub neighbours_are_near : (conn : Conn) (p q : Pixel) → AreNeighbours conn p q
    → (p.x ≤ q.x + 1) × (q.x ≤ p.x + 1) × (p.y ≤ q.y + 1) × (q.y ≤ p.y + 1)
neighbours_are_near Four p q beside =
    (omega (arith, beside), omega (arith, beside), omega (arith, beside), omega (arith, beside))
neighbours_are_near Eight p q beside = (
  omega (arith, beside.0),
  omega (arith, beside.0),
  omega (arith, beside.1),
  omega (arith, beside.1),
)

-- a pixel with a neighbour in a rectangle is near it
pub near_by_neighbour : (conn : Conn) (p q : Pixel) (rect : Rect) → AreNeighbours conn p q → IsInRect rect q
    → IsNear rect p
near_by_neighbour conn p q rect beside inside =
    let near = neighbours_are_near conn p q beside in
    record {
      left = omega (arith, near.1, inside.0);
      right = omega (arith, near.0, inside.1);
      above = omega (arith, near.3, inside.2);
      below = omega (arith, near.2, inside.3);
    }

-- a neighbour of a pixel of a rectangle is near it
pub near_to_neighbour : (conn : Conn) (p q : Pixel) (rect : Rect) → AreNeighbours conn p q → IsInRect rect p
    → IsNear rect q
near_to_neighbour conn p q rect beside inside =
    let near = neighbours_are_near conn p q beside in
    record {
      left = omega (arith, near.0, inside.0);
      right = omega (arith, near.1, inside.1);
      above = omega (arith, near.2, inside.2);
      below = omega (arith, near.3, inside.3);
    }

-- the rectangle of one pixel
abbrev pub only : Pixel → Rect
only p = record { x = p.x; y = p.y; w = 1; h = 1 }

-- a neighbour of a pixel is near the rectangle of that pixel
pub near_pixel : (conn : Conn) (p q : Pixel) → AreNeighbours conn p q → IsNear (only p) q
near_pixel conn p q beside =
    let near = neighbours_are_near conn p q beside in
    record {
      left = near.0;
      right = near.1;
      above = near.2;
      below = near.3;
    }

module _ (image : Raster) (conn : Conn) (rect other near : Rect)
    (pixels : (p : Pixel) → IsInRect near p ↔ (IsInRect rect p × IsNear other p)) where
  pub some_of_near : (P : Pixel → Type 0) → SomeIn near P → SomeIn rect P
  some_of_near P (p, inside, has) = (p, ((pixels p).0 inside).0, has)

  -- what is linked with the other rectangle lies near it
  pub linked_in_near : SomeIn rect (IsLinkedInto image conn other) → SomeIn near (IsLinkedInto image conn other)
  linked_in_near (p, inside, (above, (q, there, (beside, light)))) =
      (p, (pixels p).1 (inside, near_by_neighbour conn p q other beside there), (above, (q, there, (beside, light))))

module _ (image : Raster) (conn : Conn) (p : Pixel) (rect near : Rect)
    (pixels : (q : Pixel) → IsInRect near q ↔ (IsInRect rect q × IsNear (only p) q)) where
  pub some_near_pixel : SomeIn near (IsLightBeside image conn p) → SomeIn rect (IsLightBeside image conn p)
  some_near_pixel (q, inside, light) = (q, ((pixels q).0 inside).0, light)

  pub light_in_near : SomeIn rect (IsLightBeside image conn p) → SomeIn near (IsLightBeside image conn p)
  light_in_near (q, inside, (beside, light)) = (q, (pixels q).1 (inside, near_pixel conn p q beside), (beside, light))

-- what a rectangle is linked with in another is light, and lies near it
pub dark_is_not_linked : (image : Raster) (conn : Conn) (rect other near : Rect)
    → ((q : Pixel) → IsInRect near q ↔ (IsInRect other q × IsNear rect q)) → (SomeIn near (IsLight image) → ⊥)
    → SomeIn rect (IsLinkedInto image conn other) → ⊥
dark_is_not_linked image conn rect other near pixels dark (p, inside, (above, (q, there, (beside, light)))) =
    dark (q, (pixels q).1 (there, near_to_neighbour conn p q rect beside inside), light)
