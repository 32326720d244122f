use Rattle.row_scans.proofs.Joining.{joined_same}
use Rattle.raster_sweeps.proofs.OpenRows.{beside_opens, open_beside}
use Rattle.raster_sweeps.proofs.open_pairs.queue_between.Goals as goal

pub returns : goal.returns
returns c =
    let first = c.first_cell-first.result in
    let place = c.first_cell-first.ensures.place in
    joined_same c.queue_to.ensures
    (λ i. beside_opens first c.row_in-raising.ensures c.row_in-limits.ensures c.row_in-raised.ensures c.requires.from
    c.requires.to place i c.requires.touch)
    (λ i. open_beside first c.row_in-raising.ensures c.row_in-limits.ensures c.row_in-raised.ensures c.requires.from
    c.requires.to place i c.requires.touch)
