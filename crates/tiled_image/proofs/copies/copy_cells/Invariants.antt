-- What the loop of `copy_cells` keeps.
use Rattle.tiled_image.specs.Shown.{IsStripCopied, cell_in}
use Rattle.tiled_image.proofs.copies.copy_cells.Given as goal

-- the rows so far are copied
abbrev pub invariant-loop-y : goal.invariant-loop-y
invariant-loop-y l =
    IsStripCopied (record l.fn.strip { h = l.y }) (cell_in l.fn.from l.fn.source) l.fn.to l.fn.cells l.cells
