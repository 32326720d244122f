-- Laws of the views, as statements. Public functions have them as their contracts.
use Rattle.std.specs.Prelude.{◌≡◌, ◌≤◌, ◌↔◌, ℕ}
use Rattle.grid_core.specs.{declared.pixel.Pixel.Pixel, Neighbours.AreNeighbours, Path.Domain, Path.Inside}
use Rattle.derived_views.specs.Holes.{IsFill}
use Rattle.derived_views.specs.Plateaus.{IsOnPlateau, IsRegionalMaximum, IsRegionalMaxima}

-- an image has at most one fill
abbrev pub AtMostOneFill : Type 0
AtMostOneFill =
    (d : Domain) (image fill other : Pixel → ℕ) → IsFill d image fill → IsFill d image other
    → (p : Pixel) → Inside d p → fill p ≡ other p

-- an image has its regional maxima in one way at most
abbrev pub AtMostOneRegionalMaxima : Type 0
AtMostOneRegionalMaxima =
    (d : Domain) (image maxima other : Pixel → ℕ) → IsRegionalMaxima d image maxima → IsRegionalMaxima d image other
    → (p : Pixel) → Inside d p → maxima p ≡ other p

-- a plateau is a regional maximum exactly where no pixel beside it is greater
abbrev pub NoGreaterBeside : Type 0
NoGreaterBeside =
    (d : Domain) (image : Pixel → ℕ) (p : Pixel)
    → IsRegionalMaximum d image p
    ↔ ((q r : Pixel) → IsOnPlateau d image p q → Inside d r → AreNeighbours d.conn q r → image r ≤ image p)
