-- What the tactics leave open of `raise_row_along`.
use Rattle.std.proofs.Common.{◌∙◌, refl}
use Rattle.grid_core.specs.declared.conn.Conn.TheVariants.{Four}
use Rattle.raster_sweeps.specs.Growth.{rows_of}
use Rattle.raster_sweeps.proofs.{Grown.fits_below, Grown.grown_same, Scanning.none_open_along, Scanning.row_grown_twice}
use Rattle.raster_sweeps.proofs.scans.raise_row_along.Goals as goal

pub returns-then-is_row_closed_along-clause-grown : goal.returns-then-is_row_closed_along-clause-grown
returns-then-is_row_closed_along-clause-grown c conn = record {
  grown = grown_same c.requires.filled c.requires.below (fits_below c.requires.below c.requires.fits);
  others = λ p inside other. refl;
}

pub raise_row_from_right-requires : goal.raise_row_from_right-requires
raise_row_from_right-requires c =
    let left = (c.raise_row_from_left.ensures.grown Four).grown in
    record {
      size = c.requires.size;
      filled = left.filled ∙ c.requires.filled;
      mask_filled = c.requires.mask_filled;
      below = left.below;
      fits = c.requires.fits;
      row = c.requires.row;
    }

pub returns-clause-grown : goal.returns-clause-grown
returns-clause-grown c conn =
    row_grown_twice (c.raise_row_from_left.ensures.grown conn) (c.raise_row_from_right.ensures.grown conn)

pub returns-clause-closed : goal.returns-clause-closed
returns-clause-closed c conn =
    let size = c.args.size in
    none_open_along conn c.args.rect (rows_of size c.args.mask.now) (rows_of size c.raise_row_from_right.new.image)
    c.args.y (c.raise_row_from_right.ensures.closed conn)
    (c.raise_row_from_right.ensures.kept conn (c.raise_row_from_left.ensures.closed conn))
