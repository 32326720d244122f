use Rattle.std.proofs.Common.{◌≡◌, ◌+◌, ◌-◌, min, arith}
use Rattle.stroke_core.proofs.RowLemmas.{disc_spans_part}
use Rattle.stroke_core.proofs.stroke.first_row_from.Goals as goal

pub returns-clause-point : goal.returns-clause-point
returns-clause-point c =
    let x = c.args.x in
    let y = c.args.y in
    let r = c.args.r in
    let rows : c.min.result ≡ min (min y r + r + 1) (c.args.row - (y - r)) = omega arith in
    disc_spans_part x y r c.args.row c.min.result rows
