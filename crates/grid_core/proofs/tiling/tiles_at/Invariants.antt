use Rattle.std.proofs.Common.{◌≡◌, map, take}
use Rattle.grid_core.specs.Raster.{index_of}
use Rattle.grid_core.proofs.tiling.tiles_at.Given as goal

abbrev pub invariant-loop-place : goal.invariant-loop-place
invariant-loop-place l = l.found ≡ map (index_of l.columns) (take l.place-index l.places)
