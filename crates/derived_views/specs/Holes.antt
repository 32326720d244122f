-- An image whose holes are filled (Soille, "Morphological Image Analysis"): each pixel is raised to the least level at
-- which it escapes to the border of the image.
use Rattle.std.specs.{Prelude.ℕ, Prelude.◌<◌, Prelude.◌≤◌, Prelude.List, Prelude.◌∷◌, List.AllByRecursion}
use Rattle.grid_core.specs.{declared.pixel.Pixel.Pixel, Raster.IsOnBorder}
use Rattle.grid_core.specs.Path.{Domain, Inside, IsPath, end_of}

-- the pixel escapes at level k: a path leads from it to a pixel on the border, and every value on it is at most k
abbrev pub Escapes : Domain → (Pixel → ℕ) → Pixel → ℕ → Type 0
Escapes d image p k =
    (rest : List Pixel) × IsPath d p rest × AllByRecursion (λ q. image q ≤ k) (p ∷ rest)
    × IsOnBorder d.width d.height (end_of p rest)

-- at each pixel the value is the least level at which the pixel escapes
abbrev pub IsFill : Domain → (Pixel → ℕ) → (Pixel → ℕ) → Type 0
IsFill d image fill =
    (p : Pixel) → Inside d p → Escapes d image p (fill p) × ((k : ℕ) → k < fill p → Escapes d image p k → ⊥)
