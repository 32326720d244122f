use Rattle.grid_core.specs.{Raster.value_at, Rects.part}
use Rattle.grid_core.proofs.ImageRows.{AreRows}
use Rattle.grid_core.proofs.grid.Grid.cut.Given as goal

-- the rows so far are copied
abbrev pub invariant-loop-y : goal.invariant-loop-y
invariant-loop-y l = AreRows l.rect.w (part l.rect (value_at l.self)) l.y l.cells.items
