-- Paths: what holds along them, how they go on, and that one leads from each pixel to each other.
use Rattle.std.proofs.Common.{◌≡◌, ℕ, zero, suc, List, [], ◌∷◌, ◌++◌, refl, sym, subst, arith}
use Rattle.std.specs.List.{AllByRecursion}
use Rattle.grid_core.specs.{declared.conn.Conn.Conn, declared.pixel.Pixel.Pixel, Neighbours.AreNeighbours}
use Rattle.grid_core.specs.declared.conn.Conn.TheVariants.{Four, Eight}
use Rattle.grid_core.specs.Path.{Domain, Inside, IsPath, end_of}

-- what follows from another property at each pixel inside follows along a path
pub along_path : (d : Domain) (P Q : Pixel → Type 0) → ((q : Pixel) → Inside d q → P q → Q q) → (p : Pixel)
    (rest : List Pixel) → IsPath d p rest → AllByRecursion P (p ∷ rest) → AllByRecursion Q (p ∷ rest)
along_path d P Q follows p [] path all = (follows p path all.0, tt)
along_path d P Q follows p (q ∷ rest) path all =
    (follows p path.0 all.0, along_path d P Q follows q rest path.2 all.1)

-- what holds of each pixel holds along a path
pub everywhere : (P : Pixel → Type 0) → ((q : Pixel) → P q) → (p : Pixel) (rest : List Pixel)
    → AllByRecursion P (p ∷ rest)
everywhere P holds p [] = (holds p, tt)
everywhere P holds p (q ∷ rest) = (holds p, everywhere P holds q rest)

-- what holds along a path holds at its end
pub at_end : (P : Pixel → Type 0) (p : Pixel) (rest : List Pixel) → AllByRecursion P (p ∷ rest) → P (end_of p rest)
at_end P p [] all = all.0
at_end P p (q ∷ rest) all = at_end P q rest all.1

-- a path goes on to a neighbour of its end
pub path_on : (d : Domain) (p : Pixel) (rest : List Pixel) (r : Pixel) → IsPath d p rest
    → AreNeighbours d.conn (end_of p rest) r → Inside d r → IsPath d p (rest ++ r ∷ [])
path_on d p [] r path beside inside = (path, beside, inside)
path_on d p (q ∷ rest) r path beside inside = (path.0, path.1, path_on d q rest r path.2 beside inside)

pub all_on : (P : Pixel → Type 0) (p : Pixel) (rest : List Pixel) (r : Pixel) → AllByRecursion P (p ∷ rest) → P r
    → AllByRecursion P (p ∷ (rest ++ r ∷ []))
all_on P p [] r all here = (all.0, (here, tt))
all_on P p (q ∷ rest) r all here = (all.0, all_on P q rest r all.1 here)

pub end_on : (p : Pixel) (rest : List Pixel) (r : Pixel) → end_of p (rest ++ r ∷ []) ≡ r
end_on p [] r = refl
end_on p (q ∷ rest) r = end_on q rest r

-- the pixel of a column and a row
abbrev pub pixel_at : ℕ → ℕ → Pixel
pixel_at x y = record { x = x; y = y }

-- the pixel to the left is a neighbour
pub left_is_neighbour : (conn : Conn) (x y : ℕ) → AreNeighbours conn (pixel_at (suc x) y) (pixel_at x y)
left_is_neighbour Four x y = omega arith
left_is_neighbour Eight x y = (omega arith, omega arith, omega arith)

-- so are those to the right, above and below
right_is_neighbour : (conn : Conn) (x y : ℕ) → AreNeighbours conn (pixel_at x y) (pixel_at (suc x) y)
right_is_neighbour Four x y = omega arith
right_is_neighbour Eight x y = (omega arith, omega arith, omega arith)

above_is_neighbour : (conn : Conn) (x y : ℕ) → AreNeighbours conn (pixel_at x (suc y)) (pixel_at x y)
above_is_neighbour Four x y = omega arith
above_is_neighbour Eight x y = (omega arith, omega arith, omega arith)

below_is_neighbour : (conn : Conn) (x y : ℕ) → AreNeighbours conn (pixel_at x y) (pixel_at x (suc y))
below_is_neighbour Four x y = omega arith
below_is_neighbour Eight x y = (omega arith, omega arith, omega arith)

-- a path leads from the pixel to the other
abbrev Leads : Domain → Pixel → Pixel → Type 0
Leads d p q = (rest : List Pixel) × IsPath d p rest × (end_of p rest ≡ q)

module _ (d : Domain) (p : Pixel) where
  step : (q r : Pixel) → Leads d p q → Inside d r → AreNeighbours d.conn q r → Leads d p r
  step q r way inside beside = (
    way.0 ++ r ∷ [],
    path_on d p way.0 r way.1 (subst (λ e. AreNeighbours d.conn e r) (sym way.2) beside) inside,
    end_on p way.0 r,
  )

  to_left : (x y : ℕ) → Inside d (pixel_at x y) → Leads d p (pixel_at x y) → Leads d p (pixel_at 0 y)
  to_left zero y inside way = way
  to_left (suc x) y inside way =
      let next : Inside d (pixel_at x y) = (omega (arith, inside.0), inside.1) in
      to_left x y next (step (pixel_at (suc x) y) (pixel_at x y) way next (left_is_neighbour d.conn x y))

  to_top : (x y : ℕ) → Inside d (pixel_at x y) → Leads d p (pixel_at x y) → Leads d p (pixel_at x 0)
  to_top x zero inside way = way
  to_top x (suc y) inside way =
      let next : Inside d (pixel_at x y) = (inside.0, omega (arith, inside.1)) in
      to_top x y next (step (pixel_at x (suc y)) (pixel_at x y) way next (above_is_neighbour d.conn x y))

  to_right : (x y : ℕ) → Inside d (pixel_at x y) → Leads d p (pixel_at 0 y) → Leads d p (pixel_at x y)
  to_right zero y inside way = way
  to_right (suc x) y inside way =
      let before : Inside d (pixel_at x y) = (omega (arith, inside.0), inside.1) in
      step (pixel_at x y) (pixel_at (suc x) y) (to_right x y before way) inside (right_is_neighbour d.conn x y)

  to_bottom : (x y : ℕ) → Inside d (pixel_at x y) → Leads d p (pixel_at x 0) → Leads d p (pixel_at x y)
  to_bottom x zero inside way = way
  to_bottom x (suc y) inside way =
      let before : Inside d (pixel_at x y) = (inside.0, omega (arith, inside.1)) in
      step (pixel_at x y) (pixel_at x (suc y)) (to_bottom x y before way) inside (below_is_neighbour d.conn x y)

-- a path leads from each pixel to each other
pub path_between : (d : Domain) (p q : Pixel) → Inside d p → Inside d q
    → (rest : List Pixel) × IsPath d p rest × (end_of p rest ≡ q)
path_between d p q inside_p inside_q =
    let left : Inside d (pixel_at 0 p.y) = (omega (arith, inside_p.0), inside_p.1) in
    let corner : Inside d (pixel_at 0 q.y) = (omega (arith, inside_p.0), inside_q.1) in
    to_right d p q.x q.y inside_q
    (to_bottom d p 0 q.y corner (to_top d p 0 p.y left (to_left d p p.x p.y inside_p ([], inside_p, refl))))
