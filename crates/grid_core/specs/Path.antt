-- Paths of neighbouring pixels, and the levels that a pixel reaches along them.
use Rattle.std.specs.{Prelude.ℕ, Prelude.◌≤◌, Prelude.List, Prelude.[], Prelude.◌∷◌, List.AllByRecursion}
use Rattle.grid_core.specs.{declared.conn.Conn.Conn, declared.pixel.Pixel.Pixel, Neighbours.AreNeighbours}
use Rattle.grid_core.specs.Raster.{Raster, IsInside}

-- where images are defined: a rectangle of pixels, with its connectivity
pub record Domain : Type 0 where
  pub width : ℕ
  pub height : ℕ
  pub conn : Conn

-- where an image is defined, with a connectivity
abbrev pub domain_of : Raster → Conn → Domain
domain_of image conn = record { width = image.width; height = image.height; conn = conn }

-- the pixel lies in the domain
abbrev pub Inside : Domain → Pixel → Type 0
Inside d p = IsInside d.width d.height p

-- a path: the pixel and then the others, all of the domain, each a neighbour of the next
abbrev pub IsPath : Domain → Pixel → List Pixel → Type 0
IsPath d p [] = Inside d p
IsPath d p (q ∷ rest) = Inside d p × AreNeighbours d.conn p q × IsPath d q rest

-- the pixel that the path ends at
abbrev pub end_of : Pixel → List Pixel → Pixel
end_of p [] = p
end_of p (q ∷ rest) = end_of q rest

-- the pixel reaches level k: a path leads from it, where the mask is at least k, to a pixel where the
-- marker is at least k
abbrev pub Reaches : Domain → (Pixel → ℕ) → (Pixel → ℕ) → Pixel → ℕ → Type 0
Reaches d mask marker p k =
    (rest : List Pixel) × IsPath d p rest × AllByRecursion (λ q. k ≤ mask q) (p ∷ rest) × (k ≤ marker (end_of p rest))
