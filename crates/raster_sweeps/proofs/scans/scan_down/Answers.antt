use Rattle.std.proofs.Common.{◌≡◌, ◌+◌, ◌-◌, subst, arith}
use Rattle.raster_sweeps.specs.{Growth.rows_of, RowPairs.IsDark}
use Rattle.raster_sweeps.proofs.Grown.{fits_below, grown_twice}
use Rattle.raster_sweeps.proofs.Scanning.{all_scanned_down, dark_scanned_down, first_scanned_down, scanned_down}
use Rattle.raster_sweeps.proofs.scans.scan_down.Goals as goal

pub loop-y-init : goal.loop-y-init
loop-y-init c =
    let size = c.args.size in
    let image = rows_of size c.raise_row_along.new.image in
    record {
      grown = (c.raise_row_along.ensures.grown c.args.conn).grown;
      closed =
          first_scanned_down c.args.conn c.args.rect (rows_of size c.args.mask.now) image
          (c.raise_row_along.ensures.closed c.args.conn);
      dark = λ dark. c.is_dark-dark.ensures.0 dark;
    }

pub loop-y-preserved : goal.loop-y-preserved
loop-y-preserved c =
    let grown = c.raise_row.ensures.grown in
    let image = rows_of c.args.size c.raise_row.new.image in
    let same : c.loop-y.y ≡ c.loop-y.y + 1 - 1 = omega arith in
    record {
      grown = grown_twice c.loop-y.invariant.grown grown.grown;
      closed =
          scanned_down grown (omega arith) c.raise_row.ensures.along c.raise_row.ensures.across
          c.loop-y.invariant.closed;
      dark = λ dark. subst (IsDark c.args.rect image) same (c.is_dark-dark-in-loop-y.ensures.0 dark);
    }

pub loop-y-preserved-then-is_dark : goal.loop-y-preserved-then-is_dark
loop-y-preserved-then-is_dark c =
    let rect = c.args.rect in
    let mask = rows_of c.args.size c.args.mask.now in
    let image = rows_of c.args.size c.loop-y.image in
    let same : c.loop-y.y ≡ c.loop-y.y + 1 - 1 = omega arith in
    let lower : IsDark rect image c.loop-y.y = c.is_dark.ensures.0 c.if-is_dark.true in
    record {
      grown = c.loop-y.invariant.grown;
      closed =
          dark_scanned_down c.args.conn rect mask image c.loop-y.y (omega arith)
          (c.loop-y.invariant.dark c.if-dark.true) lower c.loop-y.invariant.closed;
      dark = λ dark. subst (IsDark rect image) same lower;
    }

pub returns : goal.returns
returns c =
    let size = c.args.size in
    record {
      grown = c.loop-y.invariant.grown;
      closed =
          all_scanned_down c.args.conn c.args.rect (rows_of size c.args.mask.now) (rows_of size c.loop-y.image)
          c.loop-y.y (omega (arith, c.loop-y-test.false)) c.loop-y.invariant.closed;
    }

pub is_dark-dark-requires-clause-fits : goal.is_dark-dark-requires-clause-fits
is_dark-dark-requires-clause-fits c =
    fits_below (c.raise_row_along.ensures.grown c.args.conn).grown.below c.requires.fits

pub is_dark-dark-requires-in-loop-y-clause-fits : goal.is_dark-dark-requires-in-loop-y-clause-fits
is_dark-dark-requires-in-loop-y-clause-fits c = fits_below c.raise_row.ensures.grown.grown.below c.requires.fits
