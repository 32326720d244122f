-- Jobs on tiles and swept tiles, as plain data.
use Rattle.std.specs.Prelude.{◌≡◌}
use Rattle.grid_core.specs.{declared.bounds.Bounds.Bounds, declared.conn.Conn.Conn, declared.rect.Rect.Rect}
use Rattle.grid_core.specs.{Bounds.LieIn, Path.domain_of, Reconstruction.IsReconstruction}
use Rattle.grid_core.specs.Raster.{Raster, IsFilled, IsSized, IsBelow, value_at}
use Rattle.raster_sweeps.specs.OpenBounds.{OpenPairsBeginIn}
use Rattle.tile_generations.specs.{declared.ticket.Ticket.Ticket, Rims.Rim, Rims.IsRimOf}

-- what a hand needs to sweep a tile: its ticket, the connectivity, and the tile's pixels and mask, each as an
-- image by itself
pub record Job : Type 0 where
  pub ticket : Ticket
  pub conn : Conn
  pub base : Raster
  pub mask : Raster

-- a job, and the pixels that its sweep gave
pub record Swept : Type 0 where
  pub job : Job
  pub pixels : Raster

-- the base of the job is below its mask
pub record IsJob (job : Job) : Type 0 where
  pub sized : IsSized job.mask
  pub filled : IsFilled job.base
  pub below : IsBelow job.base job.mask

-- all of an image, as a rectangle of it
abbrev pub all_of : Raster → Rect
all_of image = record { x = 0; y = 0; w = image.width; h = image.height }

-- the bounds lie in the tile, and a pixel of the base that can raise a neighbour in the tile lies within them
pub record AreBoundsOf (job : Job) (bounds : Bounds) : Type 0 where
  pub lie : LieIn bounds (all_of job.mask)
  pub begin : OpenPairsBeginIn job.conn (all_of job.mask) job.mask job.base bounds

-- a job as it is kept, with its bounds
pub record IsKeptJob (job : Job) (bounds : Bounds) : Type 0 where
  pub is_job : IsJob job
  pub within : AreBoundsOf job bounds

-- the pixels are the reconstruction of the job's mask from its base
pub record IsSwept (swept : Swept) : Type 0 where
  pub job : IsJob swept.job
  pub width : swept.pixels.width ≡ swept.job.mask.width
  pub height : swept.pixels.height ≡ swept.job.mask.height
  pub filled : IsFilled swept.pixels
  pub is_reconstruction :
      IsReconstruction (domain_of swept.job.mask swept.job.conn) (value_at swept.job.mask) (value_at swept.job.base)
      (value_at swept.pixels)

-- a swept tile as it is kept, with the rim of its pixels
pub record IsKeptSwept (swept : Swept) (rim : Rim) : Type 0 where
  pub is_swept : IsSwept swept
  pub has_rim : IsRimOf swept.pixels rim
