-- The strokes that stand under some tags of a state, live or not, and what painting or clearing them leaves. All but
-- `IsBlankOn` stands in contracts of private functions.
use Rattle.std.specs.Prelude.{◌≡◌, ℕ, Bool, false, min, max, if◌then◌else◌, List, [], ◌∷◌, Option, Some, None}
use Rattle.std.specs.List.{list_any}
use Rattle.grid_core.specs.declared.pixel.Pixel.{Pixel}
use Rattle.grid_core.specs.Raster.{Raster, IsInside, value_at, IsOfSize}
use Rattle.stroke_core.specs.Seed.{Seed, covers}
use Rattle.stroke_lattice.specs.State.{State}
use Rattle.marker_tiles.specs.{declared.window.Window.Window, Marker.IsTopLevel, Painting.in_some}
use Rattle.std.specs.FinMap as map

-- the level of the seed where it covers the pixel, else 0
abbrev pub level_at : Seed → Pixel → ℕ
level_at seed p = if covers seed p then seed.level else 0

-- that of a seed, if there is one
abbrev pub level_if : Option Seed → Pixel → ℕ
level_if None p = 0
level_if (Some seed) p = level_at seed p

-- whether there is a seed and it covers the pixel
abbrev pub covers_if : Option Seed → Pixel → Bool
covers_if None p = false
covers_if (Some seed) p = covers seed p

-- the greatest of the levels that the strokes under these tags have at the pixel
abbrev pub level_of_some : State → List ℕ → Pixel → ℕ
level_of_some s [] p = 0
level_of_some s (tag ∷ tags) p = max (level_if (map.get s.strokes tag) p) (level_of_some s tags p)

-- whether one of the strokes under these tags covers the pixel
abbrev pub some_covers : State → List ℕ → Pixel → Bool
some_covers s tags p = list_any (λ tag. covers_if (map.get s.strokes tag) p) tags

-- the new image is the old one, raised by the strokes under these tags as far as the mask lets it
pub record IsRaisedBy (s : State) (tags : List ℕ) (mask old new : Raster) : Type 0 where
  pub size : IsOfSize mask new
  pub values : (p : Pixel) → IsInside mask.width mask.height p
      → value_at new p ≡ max (value_at old p) (min (value_at mask p) (level_of_some s tags p))

-- the new image is the old one, with 0 where one of the strokes under these tags covers the pixel
pub record IsClearedOf (s : State) (tags : List ℕ) (mask old new : Raster) : Type 0 where
  pub size : IsOfSize mask new
  pub values : (p : Pixel) → IsInside mask.width mask.height p
      → value_at new p ≡ (if some_covers s tags p then 0 else value_at old p)

-- the new image is the old one, raised within the windows by all live strokes as far as the mask lets it
pub record IsRaisedByLive (s : State) (windows : List Window) (mask old new : Raster) : Type 0 where
  pub size : IsOfSize mask new
  pub values : (p : Pixel) → IsInside mask.width mask.height p
      → (top : ℕ) × IsTopLevel s p top
      × (value_at new p
      ≡ max (value_at old p) (min (value_at mask p) (if in_some windows p then top else 0)))

-- the image has the size of the mask, and is 0 at each pixel
pub record IsBlankOn (mask image : Raster) : Type 0 where
  pub size : IsOfSize mask image
  pub values : (p : Pixel) → IsInside mask.width mask.height p → value_at image p ≡ 0
