-- The base that a job holds, as an image.
use Rattle.std.specs.Arc.{arc_value}
use Rattle.grid_core.specs.Raster.{Raster}
use Rattle.tile_generations.specs.declared.pixels.Base.{Base}
use Rattle.tile_generations.specs.declared.pixels.Base.TheVariants.{Own, Shared}

-- the pixels, whoever owns them
abbrev pub raster_of : Base → Raster
raster_of (Own grid) = grid
raster_of (Shared grid) = arc_value grid
