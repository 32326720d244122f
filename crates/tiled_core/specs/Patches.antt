-- Cells that show a rectangle row by row, as an image by itself.
use Rattle.std.specs.Prelude.{ℕ, ◌*◌, List, take}
use Rattle.grid_core.specs.{declared.rect.Rect.Rect, Raster.Raster}

-- the first of the cells, as many as the rectangle has pixels, as an image of its width and height
abbrev pub patch_of : Rect → List ℕ → Raster
patch_of rect cells = record { width = rect.w; height = rect.h; cells = take (rect.w * rect.h) cells }
