-- What every core keeps.
use Rattle.std.specs.Prelude.{◌≡◌, ◌≢◌, ℕ, ◌≤◌, ◌⊎◌, min, length, IsTrue, None, Contains}
use Rattle.grid_core.specs.{declared.pixel.Pixel.Pixel, Raster.IsFilled, Neighbours.AreNeighbours}
use Rattle.grid_core.specs.Reconstruction.{IsLawful, IsReconstruction}
use Rattle.grid_core.specs.Tiles.{IsTiled, tile_of, count_of}
use Rattle.stroke_lattice.specs.State.{StateFits}
use Rattle.marker_tiles.specs.Marker.{IsMarker}
use Rattle.border_queues.specs.declared.hint.Hint.{Hint}
use Rattle.tile_generations.specs.Generations.{max_generation}
use Rattle.core_rules.specs.{Image.IsSupported, Image.IsOpen, Image.IsOfSize, Hits.IsInTile, Hints.IsPresent}
use Rattle.core_rules.specs.Work.{Core, domain, tiling, mask_at, image_at, IsTile, work_at}

-- the sizes fit together, each stroke fits the mask, and no generation is too great
pub record IsShaped (core : Core) : Type 0 where
  pub tiled : IsTiled (tiling core)
  pub mask : IsFilled core.mask
  pub image : IsOfSize core.mask core.image
  pub tiles : length core.tiles ≡ count_of (tiling core)
  pub strokes : StateFits core.mask.width core.mask.height core.state
  pub generations : (t : ℕ) → IsTile core t → (work_at core t).generation ≤ max_generation

-- a pixel of the tile can raise the other to this value
pub record CanRaise (core : Core) (t : ℕ) (q : Pixel) (value : ℕ) : Type 0 where
  pub p : Pixel
  pub from : IsInTile (tiling core) t p
  pub beside : AreNeighbours core.conn p q
  pub enough : value ≤ min (image_at core p) (mask_at core q)

-- a hint that waits at the tile is for a pixel of it, from a tile that was in no later generation then; and where it is
-- present, what it says is true
pub record IsValid (core : Core) (t : ℕ) (hint : Hint) : Type 0 where
  pub to : IsInTile (tiling core) t hint.to_pixel
  pub from : IsTile core hint.from
  pub earlier : hint.from_generation ≤ (work_at core hint.from).generation
  pub holds : IsPresent core hint → CanRaise core hint.from hint.to_pixel hint.value

-- a present hint waits that raises the second pixel at least as far as the first can
pub record HasHint (core : Core) (p q : Pixel) : Type 0 where
  pub hint : Hint
  pub waits : Contains (work_at core (tile_of (tiling core) q)).inbox hint
  pub from : hint.from ≡ tile_of (tiling core) p
  pub to : hint.to_pixel ≡ q
  pub present : IsPresent core hint
  pub enough : min (image_at core p) (mask_at core q) ≤ hint.value

-- work is left that will close the pair: the tile of its first pixel is dirty or out, or a hint waits
abbrev pub HasWork : Core → Pixel → Pixel → Type 0
HasWork core p q =
    IsTrue (work_at core (tile_of (tiling core) p)).dirty ⊎ ((work_at core (tile_of (tiling core) p)).out ≢ None)
    ⊎ HasHint core p q

-- the image is supported by the marker of the strokes, the waiting hints are valid, and each open pair has work
pub record IsSound (core : Core) : Type 0 where
  pub shape : IsShaped core
  pub marker : Pixel → ℕ
  pub is_marker : IsMarker (domain core) (mask_at core) core.state marker
  pub supported : IsSupported (domain core) (mask_at core) marker (image_at core)
  pub hints : (t : ℕ) (hint : Hint) → IsTile core t → Contains (work_at core t).inbox hint → IsValid core t hint
  pub work : (p q : Pixel) → IsOpen (domain core) (mask_at core) (image_at core) p q → HasWork core p q

-- the image is lawful for the marker of the strokes
abbrev pub HasLawfulImage : Core → Type 0
HasLawfulImage core =
    (marker : Pixel → ℕ) → IsMarker (domain core) (mask_at core) core.state marker
    → IsLawful (domain core) (mask_at core) marker (image_at core)

-- the image is the reconstruction of the mask from the marker of the strokes
abbrev pub HasReconstruction : Core → Type 0
HasReconstruction core =
    (marker : Pixel → ℕ) → IsMarker (domain core) (mask_at core) core.state marker
    → IsReconstruction (domain core) (mask_at core) marker (image_at core)
