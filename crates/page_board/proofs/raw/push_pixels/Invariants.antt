use Rattle.std.proofs.Common.{take}
use Rattle.page_board.specs.Putting.{PutsSamples}
use Rattle.page_board.proofs.raw.push_pixels.Given as goal

-- the samples of the rectangles so far are there
abbrev pub invariant-loop-rect : goal.invariant-loop-rect
invariant-loop-rect l =
    PutsSamples (record { raster = l.image; maxval = l.maxval }) (take l.rect-index l.rects) l.fn.out.items l.out.items
