-- The h-maxima of an image (Vincent 1993): each dome loses up to h at its top.
use Rattle.std.specs.Prelude.{ℕ, ◌-◌}
use Rattle.grid_core.specs.{declared.pixel.Pixel.Pixel, Path.Domain, Reconstruction.IsReconstruction}

-- each value less h, and 0 where it is less than h
abbrev pub less : ℕ → (Pixel → ℕ) → Pixel → ℕ
less h image p = image p - h

-- the reconstruction of the image from the image less h
abbrev pub IsHMaxima : Domain → ℕ → (Pixel → ℕ) → (Pixel → ℕ) → Type 0
IsHMaxima d h image maxima = IsReconstruction d image (less h image) maxima
