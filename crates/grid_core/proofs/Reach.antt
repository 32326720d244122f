-- Paths are built at their front: a pixel reaches a level here, or by a step to a neighbour.
use Rattle.std.proofs.Common.{ℕ, ◌≤◌, List, [], ◌∷◌, arith}
use Rattle.std.specs.List.{AllByRecursion}
use Rattle.grid_core.specs.{declared.pixel.Pixel.Pixel, Neighbours.AreNeighbours}
use Rattle.grid_core.specs.Path.{Domain, Inside, IsPath, end_of, Reaches}

-- values at least k are at least each lower level
at_least_lower : (f : Pixel → ℕ) (k l : ℕ) → l ≤ k → (ps : List Pixel) → AllByRecursion (λ q. k ≤ f q) ps
    → AllByRecursion (λ q. l ≤ f q) ps
at_least_lower f k l h [] all = tt
at_least_lower f k l h (p ∷ ps) all = (omega (arith, all.0), at_least_lower f k l h ps all.1)

-- a path begins inside and ends inside
pub IsPath-inside : (d : Domain) (p : Pixel) (rest : List Pixel) → IsPath d p rest → Inside d p
IsPath-inside d p [] path = path
IsPath-inside d p (q ∷ rest) path = path.0

pub IsPath-ends_inside : (d : Domain) (p : Pixel) (rest : List Pixel) → IsPath d p rest → Inside d (end_of p rest)
IsPath-ends_inside d p [] path = path
IsPath-ends_inside d p (q ∷ rest) path = IsPath-ends_inside d q rest path.2

-- a pixel reaches the levels of its own marker, as far as the mask lets it
pub reaches_here : (d : Domain) (mask marker : Pixel → ℕ) (p : Pixel) (k : ℕ) → Inside d p → k ≤ mask p → k ≤ marker p
    → Reaches d mask marker p k
reaches_here d mask marker p k inside below_mask below_marker = ([], inside, (below_mask, tt), below_marker)

-- a pixel reaches what a neighbour reaches, as far as the mask lets it
pub reaches_by_step : (d : Domain) (mask marker : Pixel → ℕ) (p q : Pixel) (k : ℕ) → Inside d p
    → AreNeighbours d.conn p q → k ≤ mask p → Reaches d mask marker q k → Reaches d mask marker p k
reaches_by_step d mask marker p q k inside beside below_mask reach =
    (q ∷ reach.0, (inside, beside, reach.1), (below_mask, reach.2), reach.3)

pub reaches_lower : (d : Domain) (mask marker : Pixel → ℕ) (p : Pixel) (k l : ℕ) → l ≤ k → Reaches d mask marker p k
    → Reaches d mask marker p l
reaches_lower d mask marker p k l h reach =
    (reach.0, reach.1, at_least_lower mask k l h (p ∷ reach.0) reach.2, omega (arith, reach.3))

pub reaches_rises : (d : Domain) (mask lesser greater : Pixel → ℕ) → ((p : Pixel) → Inside d p → lesser p ≤ greater p)
    → (p : Pixel) (k : ℕ) → Reaches d mask lesser p k → Reaches d mask greater p k
reaches_rises d mask lesser greater below p k reach = (
  reach.0,
  reach.1,
  reach.2,
  omega (arith, reach.3, below (end_of p reach.0) (IsPath-ends_inside d p reach.0 reach.1)),
)

pub reaches_zero : (d : Domain) (mask marker : Pixel → ℕ) (p : Pixel) → Inside d p → Reaches d mask marker p 0
reaches_zero d mask marker p inside = reaches_here d mask marker p 0 inside (omega arith) (omega arith)

pub reaches_within_mask : (d : Domain) (mask marker : Pixel → ℕ) (p : Pixel) (k : ℕ) → Reaches d mask marker p k
    → k ≤ mask p
reaches_within_mask d mask marker p k reach = reach.2.0
