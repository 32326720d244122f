-- The marker that live strokes make on a mask.
use Rattle.std.specs.Prelude.{◌≡◌, ℕ, ◌≤◌, ◌⊎◌, min, IsTrue}
use Rattle.grid_core.specs.{declared.pixel.Pixel.Pixel, Path.Domain, Path.Inside}
use Rattle.stroke_core.specs.Seed.{Seed, covers}
use Rattle.stroke_lattice.specs.State.{State, IsLive}

-- a live stroke of this level covers the pixel
pub record IsMarkedAt (s : State) (p : Pixel) (level : ℕ) : Type 0 where
  pub tag : ℕ
  pub seed : Seed
  pub live : IsLive s tag seed
  pub covered : IsTrue (covers seed p)
  pub same_level : seed.level ≡ level

-- the greatest level of the live strokes that cover the pixel, 0 if none does
pub record IsTopLevel (s : State) (p : Pixel) (top : ℕ) : Type 0 where
  pub attained : (top ≡ 0) ⊎ IsMarkedAt s p top
  pub greatest : (level : ℕ) → IsMarkedAt s p level → level ≤ top

-- the marker: at each pixel the lesser of the mask and the greatest level of a live stroke that covers it
abbrev pub IsMarker : Domain → (Pixel → ℕ) → State → (Pixel → ℕ) → Type 0
IsMarker d mask s marker = (p : Pixel) → Inside d p → (top : ℕ) × IsTopLevel s p top × (marker p ≡ min (mask p) top)
