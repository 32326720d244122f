use Rattle.std.proofs.Common.{◌+◌, ◌*◌, ap}
use Rattle.marker_tiles.proofs.Painted.{cells_are_span}
use Rattle.marker_tiles.proofs.paint.paint_between.Goals as goal

pub returns-then-first-end : goal.returns-then-first-end
returns-then-first-end c =
    let y = c.args.y in
    let first = c.args.first in
    let end = c.args.end in
    let width = c.width.result in
    cells_are_span y first end (y * width + first) (y * width + end) c.requires.size c.requires.inside.1
    (ap (λ w. y * w + first) c.width.ensures.value) (ap (λ w. y * w + end) c.width.ensures.value)
    c.paint_cells.ensures
