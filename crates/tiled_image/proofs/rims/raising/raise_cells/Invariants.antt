-- What the loop of `raise_cells` keeps.
use Rattle.tiled_image.specs.{Raising.raised_cell, Shown.IsStripCopied, Shown.cell_in}
use Rattle.tiled_image.proofs.rims.raising.raise_cells.Given as goal

-- the rows so far are raised
abbrev pub invariant-loop-y : goal.invariant-loop-y
invariant-loop-y l =
    IsStripCopied (record l.fn.strip { h = l.y }) (raised_cell (cell_in l.fn.strip l.fn.values) l.fn.to l.fn.cells)
    l.fn.to l.fn.cells l.cells
