-- The flood of a mask from a marker, one level after another. Only private functions have these words in their
-- contracts; what a reconstruction is stands in `specs/Reconstruction.antt` of `grid_core`.
use Rattle.std.specs.Prelude.{◌≡◌, ℕ, ◌-◌, ◌*◌, ◌<◌, ◌≤◌, ◌⊎◌, List, length, Contains, sum_by}
use Rattle.grid_core.specs.{declared.conn.Conn.Conn, declared.pixel.Pixel.Pixel, Neighbours.AreNeighbours, Path.Domain}
use Rattle.grid_core.specs.{Path.domain_of, Path.Inside, Path.Reaches, Raster.Raster, Raster.index_of, Raster.value_at}

-- the image has a value for each pixel of the domain
pub record IsImageOn (d : Domain) (image : Raster) : Type 0 where
  pub width : image.width ≡ d.width
  pub height : image.height ≡ d.height
  pub filled : length image.cells ≡ d.width * d.height

-- at each pixel the value is the greatest level, of those up to this one, that the pixel reaches
pub record IsFloodedTo (d : Domain) (mask marker : Pixel → ℕ) (level : ℕ) (image : Pixel → ℕ) : Type 0 where
  pub within : (p : Pixel) → Inside d p → image p ≤ level
  pub reached : (p : Pixel) → Inside d p → Reaches d mask marker p (image p)
  pub greatest : (p : Pixel) (k : ℕ) → Inside d p → k ≤ level → Reaches d mask marker p k → k ≤ image p

-- at each pixel of the image the value is the greatest level up to this one that the pixel reaches, in the mask and
-- from the marker
abbrev pub IsLevelDone : Conn → Raster → Raster → ℕ → Raster → Type 0
IsLevelDone conn mask marker level image =
    IsFloodedTo (domain_of mask conn) (value_at mask) (value_at marker) level (value_at image)

-- each neighbour that the mask lets have the level has it
abbrev pub HasSpread : Domain → (Pixel → ℕ) → ℕ → (Pixel → ℕ) → Pixel → Type 0
HasSpread d mask level image p =
    (q : Pixel) → Inside d q → AreNeighbours d.conn p q → level ≤ mask q → level ≤ image q

-- A level is being flooded. The pixels with its value are marked. Each of them reaches it, and has spread or waits to;
-- of the seeds, the pixels where the marker is at least the level, those in the first `seen` cells are marked
pub record IsFlooding (d : Domain) (mask marker : Pixel → ℕ) (level seen : ℕ) (image : Pixel → ℕ)
    (waiting : List Pixel) : Type 0 where
  pub within : (p : Pixel) → Inside d p → image p ≤ level
  pub reached : (p : Pixel) → Inside d p → Reaches d mask marker p (image p)
  pub lower : (p : Pixel) (k : ℕ) → Inside d p → k < level → Reaches d mask marker p k → k ≤ image p
  pub seeds : (p : Pixel) → Inside d p → index_of d.width p < seen → level ≤ marker p → level ≤ image p
  pub marked : (p : Pixel) → Contains waiting p → Inside d p × (level ≤ image p)
  pub spread : (p : Pixel) → Inside d p → level ≤ image p → Contains waiting p ⊎ HasSpread d mask level image p

-- a level of an image is being flooded, and the seeds in the first `seen` cells are marked
abbrev pub IsSeeding : Conn → Raster → Raster → ℕ → ℕ → Raster → List Pixel → Type 0
IsSeeding conn mask marker level seen image waiting =
    IsFlooding (domain_of mask conn) (value_at mask) (value_at marker) level seen (value_at image) waiting

-- a level of an image is being flooded, and the seeds of all cells are marked
abbrev pub IsSeeded : Conn → Raster → Raster → ℕ → Raster → List Pixel → Type 0
IsSeeded conn mask marker level image waiting =
    IsSeeding conn mask marker level (mask.width * mask.height) image waiting

-- how far the values lie below the level, in all
abbrev pub missing : ℕ → List ℕ → ℕ
missing level cells = sum_by (λ v. level - v) cells
