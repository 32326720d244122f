-- How much an image still lacks of the reconstruction.
use Rattle.std.specs.Prelude.{◌≡◌, ℕ, zero, suc, ◌+◌, ◌-◌}
use Rattle.grid_core.specs.{declared.pixel.Pixel.Pixel, Path.Domain, Reconstruction.IsReconstruction}

-- f 0 + f 1 + .. + f (n - 1)
abbrev pub sum_below : (ℕ → ℕ) → ℕ → ℕ
sum_below f zero = 0
sum_below f (suc n) = sum_below f n + f n

-- the sum over all pixels of the domain, row by row
abbrev pub sum_over : Domain → (Pixel → ℕ) → ℕ
sum_over d f = sum_below (λ y. sum_below (λ x. f (record { x = x; y = y })) d.width) d.height

-- so much is owed to the image: the sum over all pixels of the reconstruction of the mask from the marker, less the
-- image. (A lawful image is nowhere greater than the reconstruction.)
pub record IsOwed (d : Domain) (mask marker j : Pixel → ℕ) (n : ℕ) : Type 0 where
  pub reconstruction : Pixel → ℕ
  pub is_reconstruction : IsReconstruction d mask marker reconstruction
  pub is_sum : n ≡ sum_over d (λ p. reconstruction p - j p)
