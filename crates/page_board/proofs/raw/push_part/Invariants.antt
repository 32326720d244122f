use Rattle.page_board.proofs.Samples.{PutsRows}
use Rattle.page_board.proofs.raw.push_part.Given as goal

-- the samples of the rows so far are there
abbrev pub invariant-loop-y : goal.invariant-loop-y
invariant-loop-y l =
    PutsRows (record { raster = l.image; maxval = l.maxval }) l.rect l.y l.fn.out.items l.out.items
