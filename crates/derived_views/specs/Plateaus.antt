-- The regional maxima of an image (Vincent 1993): the plateaus that strictly lower pixels surround.
use Rattle.std.specs.{Prelude.◌≡◌, Prelude.ℕ, Prelude.◌<◌, Prelude.◌⊎◌, Prelude.List, Prelude.◌∷◌, List.AllByRecursion}
use Rattle.grid_core.specs.{declared.pixel.Pixel.Pixel, Neighbours.AreNeighbours}
use Rattle.grid_core.specs.Path.{Domain, Inside, IsPath, end_of}

-- q lies on the plateau of p: a path leads from p to q, and every value on it is that at p
abbrev pub IsOnPlateau : Domain → (Pixel → ℕ) → Pixel → Pixel → Type 0
IsOnPlateau d image p q =
    (rest : List Pixel) × IsPath d p rest × AllByRecursion (λ r. image r ≡ image p) (p ∷ rest) × (end_of p rest ≡ q)

-- the plateau of p is a regional maximum: each pixel beside it that does not lie on it is strictly lower
abbrev pub IsRegionalMaximum : Domain → (Pixel → ℕ) → Pixel → Type 0
IsRegionalMaximum d image p =
    (q r : Pixel) → IsOnPlateau d image p q → Inside d r → AreNeighbours d.conn q r
    → (IsOnPlateau d image p r → ⊥)
    → image r < image p

-- the value is 1 at the pixels of regional maxima, and 0 at all others
abbrev pub IsRegionalMaxima : Domain → (Pixel → ℕ) → (Pixel → ℕ) → Type 0
IsRegionalMaxima d image maxima =
    (p : Pixel) → Inside d p
    → (IsRegionalMaximum d image p × (maxima p ≡ 1)) ⊎ ((IsRegionalMaximum d image p → ⊥) × (maxima p ≡ 0))
