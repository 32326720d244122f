-- What a grid is once its cells, lent to be changed in place, are given back.
use Rattle.std.specs.{Prelude.◌≡◌, Prelude.ℕ, Prelude.List, Prelude.length, List.refill}
use Rattle.std.specs.Borrow.{Lends, MutBor, Fml, Array, u32}
use Rattle.grid_core.specs.{Raster.Raster, contracts.grid.Grid.the_row}

-- the image with other values and as many cells: too many values are cut, and too few filled up from its own
abbrev pub with_cells : Raster → List ℕ → Raster
with_cells r cells = record { width = r.width; height = r.height; cells = refill (length r.cells) r.cells cells }

-- once the borrow of the slice ends, the grid has the values that are then in it, and its width and height
abbrev pub LendsCells : MutBor Raster → MutBor (List ℕ) → Fml
LendsCells grid slice = Lends the_row (Array u32 0) grid slice (with_cells grid.now)

-- an image with as many other values has just these
abbrev pub CellsGivenBack : Type 0
CellsGivenBack =
    (r : Raster) (cells : List ℕ) → length cells ≡ length r.cells
    → with_cells r cells ≡ record { width = r.width; height = r.height; cells = cells }
