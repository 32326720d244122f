use Rattle.std.proofs.Common.{◌≡◌, ◌/◌, ap, arith}
use Rattle.grid_core.specs.Tiles.{row_of}
use Rattle.grid_core.proofs.{Spans.spans-le, Tilings.some_side, Tilings.row_of-within}
use Rattle.grid_core.proofs.tiling.Tiling.row.Goals as goal

pub overflow_cast-result-2 : goal.overflow_cast-result-2
overflow_cast-result-2 c =
    let t = c.args.self.now in
    let tiled = c.columns.ensures.tiled in
    let row : c.args.tile / c.columns.result ≡ row_of t c.args.tile =
    ap (λ n. c.args.tile / n) c.columns.ensures.value in
    omega (
      arith,
      row,
      row_of-within t c.args.tile tiled c.requires,
      spans-le t.height t.side (some_side t tiled),
      tiled.size.height_within,
    )

pub returns-clause-within : goal.returns-clause-within
returns-clause-within c =
    let t = c.args.self.now in
    let row : c.args.tile / c.columns.result ≡ row_of t c.args.tile =
    ap (λ n. c.args.tile / n) c.columns.ensures.value in
    omega (arith, row, row_of-within t c.args.tile c.columns.ensures.tiled c.requires)
