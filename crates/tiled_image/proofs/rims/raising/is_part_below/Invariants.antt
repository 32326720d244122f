-- What the loop of `is_part_below` keeps.
use Rattle.std.proofs.Common.{◌≤◌}
use Rattle.grid_core.specs.{declared.pixel.Pixel.Pixel, Raster.value_at, Rects.IsInRect}
use Rattle.tiled_image.specs.Shown.{cell_in}
use Rattle.tiled_image.proofs.rims.raising.is_part_below.Given as goal

-- the image is nowhere above the values in the rows so far
abbrev pub invariant-loop-y : goal.invariant-loop-y
invariant-loop-y l =
    (p : Pixel) → IsInRect (record l.fn.rect { h = l.y }) p → value_at l.image p ≤ cell_in l.fn.rect l.values p
