-- What the tactics leave open of `place_of`.
use Rattle.tile_work.proofs.Beside.{row_is, column_is, place_is}
use Rattle.tile_work.proofs.work_table.beside.TilesBeside.place_of.Goals as goal

pub returns-clause-value : goal.returns-clause-value
returns-clause-value c =
    let row = c.side_of-row in
    let column = c.side_of-column in
    place_is c.requires.beside c.requires.near row.result column.result
    (row_is c.requires.beside c.requires.near row.result row.ensures.before row.ensures.within row.ensures.behind)
    (column_is c.requires.beside c.requires.near column.result column.ensures.before column.ensures.within
    column.ensures.behind)
