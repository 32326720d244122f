use Rattle.std.proofs.Common.{arith}
use Rattle.raster_sweeps.specs.Growth.{rows_of}
use Rattle.raster_sweeps.proofs.Scanning.{last_scanned_up}
use Rattle.band_growth.specs.Bands.{all_of}
use Rattle.band_growth.proofs.seam.raise_upwards.Goals as goal

pub returns-then-y-size : goal.returns-then-y-size
returns-then-y-size c =
    let limits = c.args.limits.now in
    let size = limits.size in
    let along = rw c.all_of-all.ensures at c.raise_row_along.ensures in
    record {
      grown = along.grown limits.conn;
      scanned =
          last_scanned_up limits.conn (all_of size) (rows_of size limits.mask.now)
          (rows_of size c.raise_row_along.new.image) c.args.y (omega (arith, c.if-y-size.true))
          (along.closed limits.conn);
    }

pub returns : goal.returns
returns c =
    let raised = rw c.all_of-all.ensures at c.raise_row.ensures in
    record { grown = raised.grown; scanned = record { along = raised.along; up = raised.across } }
