-- Neighbours are neighbours both ways, and pixels are equal or not.
use Rattle.std.proofs.Common.{◌≡◌, ◌≤◌, ap, arith, inl, inr, ◌⊎◌}
use Rattle.std.proofs.lemmas.Bool.{cases_eq}
use Rattle.grid_core.specs.{declared.conn.Conn.Conn, declared.pixel.Pixel.Pixel}
use Rattle.grid_core.specs.declared.conn.Conn.TheVariants.{Four, Eight}
use Rattle.grid_core.specs.Neighbours.{apart, AreNeighbours}

-- neighbours are neighbours both ways
pub AreNeighbours-sym : (conn : Conn) (p q : Pixel) → AreNeighbours conn p q → AreNeighbours conn q p
AreNeighbours-sym Four p q h = omega arith
AreNeighbours-sym Eight p q h = (omega arith, omega arith, omega arith)

-- neighbours are at most 1 apart in each coordinate
pub near : (conn : Conn) (p q : Pixel) → AreNeighbours conn p q → (apart p.x q.x ≤ 1) × (apart p.y q.y ≤ 1)
near Four p q beside = (omega arith, omega arith)
near Eight p q beside = (beside.0, beside.1)

-- pixels of equal coordinates are equal
pub same_pixel : (p q : Pixel) → p.x ≡ q.x → p.y ≡ q.y → p ≡ q
same_pixel p q same_x same_y = λ i. record { x = same_x i; y = same_y i }

-- two pixels are equal or not
pub same_pixel_or_not : (p q : Pixel) → (p ≡ q) ⊎ (p ≡ q → ⊥)
same_pixel_or_not p q = elim (cases_eq p.x q.x) [
  | inl same_x ↦ elim (cases_eq p.y q.y) [
    | inl same_y ↦ inl (same_pixel p q same_x same_y)
    | inr other_y ↦ inr (λ e. other_y (ap (λ (r : Pixel). r.y) e))
  ]
  | inr other_x ↦ inr (λ e. other_x (ap (λ (r : Pixel). r.x) e))
]
