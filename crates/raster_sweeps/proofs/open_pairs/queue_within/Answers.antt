use Rattle.std.proofs.Common.{refl}
use Rattle.row_scans.proofs.Joining.{joined_same}
use Rattle.raster_sweeps.proofs.OpenRows.{aside_opens, open_aside}
use Rattle.raster_sweeps.proofs.open_pairs.queue_within.Goals as goal

pub returns : goal.returns
returns c conn =
    let row = c.row_in-row.ensures in
    let limits = c.row_in-limits.ensures in
    let inside = c.requires.row in
    let first = c.first_cell-first.result in
    let place = c.first_cell-first.ensures.place in
    joined_same c.queue_aslant.ensures (λ i. aside_opens first row limits row inside inside place i refl)
    (λ i. open_aside first row limits row inside inside place i refl)
