use Rattle.std.proofs.Common.{◌≡◌, ◌++◌, take, flat_map}
use Rattle.page_board.specs.Changes.{rect_line}
use Rattle.page_board.proofs.lines.push_rects.Given as goal

-- the lines of the rectangles so far are there
abbrev pub invariant-loop-rect : goal.invariant-loop-rect
invariant-loop-rect l = l.out.items ≡ l.fn.out.items ++ flat_map rect_line (take l.rect-index l.rects)
