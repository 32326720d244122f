use Rattle.std.proofs.Common.{arith}
use Rattle.raster_sweeps.proofs.Scanning.{across_stays, row_grown_twice}
use Rattle.raster_sweeps.proofs.scans.raise_row.Goals as goal

pub returns : goal.returns
returns c =
    let conn = c.args.conn in
    let along = c.raise_row_along.ensures.grown conn in
    record {
      grown = row_grown_twice c.raise_row_by.ensures.grown along;
      along = c.raise_row_along.ensures.closed conn;
      across = across_stays (λ same. omega (arith, same, c.requires.touch)) c.raise_row_by.ensures.closed along;
    }
