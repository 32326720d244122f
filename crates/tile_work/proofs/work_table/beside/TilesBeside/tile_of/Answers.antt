-- What the tactics leave open of `tile_of`.
use Rattle.std.proofs.Common.{◌≡◌, ◌+◌, ◌*◌, arith}
use Rattle.grid_core.specs.Tiles.{tile_of}
use Rattle.tile_work.proofs.Beside.{row_is, column_is, number_is, tile_within}
use Rattle.tile_work.proofs.work_table.beside.TilesBeside.tile_of.Goals.{After-side_of-column}
use Rattle.tile_work.proofs.work_table.beside.TilesBeside.tile_of.Goals as goal

number : (c : After-side_of-column)
    → c.args.self.now.tile + c.side_of-row.result * c.args.self.now.columns + c.side_of-column.result
    ≡ tile_of c.args.self.now.tiling c.args.p + (c.args.self.now.columns + 1)
number c =
    let row = c.side_of-row in
    let column = c.side_of-column in
    number_is c.requires.beside c.requires.near row.result column.result
    (row_is c.requires.beside c.requires.near row.result row.ensures.before row.ensures.within row.ensures.behind)
    (column_is c.requires.beside c.requires.near column.result column.ensures.before column.ensures.within
    column.ensures.behind)

pub overflow_sub-result : goal.overflow_sub-result
overflow_sub-result c = omega (arith, number c)

pub returns-clause-value : goal.returns-clause-value
returns-clause-value c = omega (arith, number c)

pub returns-clause-within : goal.returns-clause-within
returns-clause-within c = omega (arith, number c, tile_within c.requires.beside c.requires.near)
