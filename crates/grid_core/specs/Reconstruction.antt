-- The reconstruction by dilation of a mask from a marker, by thresholds (Vincent 1993),
-- and the images on the way to it.
use Rattle.std.specs.Prelude.{◌≡◌, ℕ, ◌<◌, ◌≤◌, min, max}
use Rattle.grid_core.specs.{declared.pixel.Pixel.Pixel, Neighbours.AreNeighbours}
use Rattle.grid_core.specs.Path.{Domain, Inside, Reaches}

-- at each pixel the value is the greatest level that the pixel reaches
abbrev pub IsReconstruction : Domain → (Pixel → ℕ) → (Pixel → ℕ) → (Pixel → ℕ) → Type 0
IsReconstruction d mask marker r =
    (p : Pixel) → Inside d p → Reaches d mask marker p (r p) × ((k : ℕ) → r p < k → Reaches d mask marker p k → ⊥)

-- at each pixel the value is at least the marker, and a level that the pixel reaches
abbrev pub IsLawful : Domain → (Pixel → ℕ) → (Pixel → ℕ) → (Pixel → ℕ) → Type 0
IsLawful d mask marker j = (p : Pixel) → Inside d p → (marker p ≤ j p) × Reaches d mask marker p (j p)

-- no pixel can raise a neighbour further, as far as the mask lets it
abbrev pub IsClosed : Domain → (Pixel → ℕ) → (Pixel → ℕ) → Type 0
IsClosed d mask j = (p q : Pixel) → Inside d p → Inside d q → AreNeighbours d.conn p q → min (j p) (mask q) ≤ j q

-- one pixel is raised by a neighbour, as far as the mask lets it, and the others stay
pub record IsRaise (d : Domain) (mask old new : Pixel → ℕ) (p q : Pixel) : Type 0 where
  pub from_inside : Inside d p
  pub to_inside : Inside d q
  pub beside : AreNeighbours d.conn p q
  pub raised : new q ≡ max (old q) (min (old p) (mask q))
  pub others : (r : Pixel) → Inside d r → (r ≡ q → ⊥) → new r ≡ old r

-- the first of two neighbours can still raise the second, as far as the mask lets it
pub record IsOpen (d : Domain) (mask image : Pixel → ℕ) (p q : Pixel) : Type 0 where
  pub from_inside : Inside d p
  pub to_inside : Inside d q
  pub beside : AreNeighbours d.conn p q
  pub lower : image q < min (image p) (mask q)

-- at each pixel the image lies between marker and mask, and a path on which it is nowhere less than at the pixel
-- leads from there to a pixel where the marker is no less
abbrev pub IsSupported : Domain → (Pixel → ℕ) → (Pixel → ℕ) → (Pixel → ℕ) → Type 0
IsSupported d mask marker j =
    (p : Pixel) → Inside d p → (marker p ≤ j p) × (j p ≤ mask p) × Reaches d j marker p (j p)
