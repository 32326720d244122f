use Rattle.std.proofs.Common.{◌∙◌, ap, arith}
use Rattle.raster_sweeps.specs.Growth.{rows_of}
use Rattle.raster_sweeps.proofs.{OpenCells.some_within, OpenCells.open_inside, OpenCells.open_wait}
use Rattle.raster_sweeps.proofs.{OpenCells.within_rect, OpenBounds.empty_closed, OpenBounds.rise_within_same}
use Rattle.raster_sweeps.proofs.Growing.{grown_nowhere}
use Rattle.raster_sweeps.proofs.growth.raise_from_bounds.Goals as goal

pub returns-then-is_empty : goal.returns-then-is_empty
returns-then-is_empty c =
    let mask = rows_of c.args.size c.args.mask.now in
    let image = rows_of c.args.size c.args.image.now in
    record {
      grown = grown_nowhere c.requires.close;
      closed =
          empty_closed c.args.conn c.args.rect mask image c.args.bounds
          (c.is_empty.ensures.0 c.if-is_empty.true) c.requires.bounds;
      rises = rise_within_same c.args.rect image c.args.bounds;
      lie = c.requires.lie;
    }

pub returns-then-eq : goal.returns-then-eq
returns-then-eq c = record { grown = grown_nowhere c.requires.close; closed = tt; rises = tt; lie = tt }

pub rect-part-requires-clause-columns : goal.rect-part-requires-clause-columns
rect-part-requires-clause-columns c =
    omega (arith, (some_within c.args.bounds c.is_empty.result c.is_empty.ensures c.if-is_empty.false).0)

pub rect-part-requires-clause-rows : goal.rect-part-requires-clause-rows
rect-part-requires-clause-rows c =
    omega (arith, (some_within c.args.bounds c.is_empty.result c.is_empty.ensures c.if-is_empty.false).1)

pub returns-then-is_large : goal.returns-then-is_large
returns-then-is_large c = record { grown = grown_nowhere c.requires.close; closed = tt; rises = tt; lie = tt }

pub queue_open_cells-requires-clause-fits : goal.queue_open_cells-requires-clause-fits
queue_open_cells-requires-clause-fits c =
    let some = some_within c.args.bounds c.is_empty.result c.is_empty.ensures c.if-is_empty.false in
    rw c.rect-part.ensures (record {
      some_width = omega (arith, some.0);
      some_height = omega (arith, some.1);
      columns = omega (arith, some.0, c.requires.lie.1, c.requires.close.fits.columns, c.requires.close.below.width);
      rows = omega (arith, some.1, c.requires.lie.3, c.requires.close.fits.rows, c.requires.close.below.height);
    })

pub queue_open_cells-requires-clause-within : goal.queue_open_cells-requires-clause-within
queue_open_cells-requires-clause-within c =
    rw c.rect-part.ensures (within_rect c.args.rect c.args.bounds c.args.size.w c.requires.lie)

pub returns-then-not-queue_open_cells : goal.returns-then-not-queue_open_cells
returns-then-not-queue_open_cells c = record {
  grown = grown_nowhere c.requires.close;
  closed = tt;
  rises = tt;
  lie = tt;
}

pub queue_open_cells-requires-clause-width : goal.queue_open_cells-requires-clause-width
queue_open_cells-requires-clause-width c = ap (λ trail. trail.width) c.clear.ensures

pub drain_within-requires-clause-width : goal.drain_within-requires-clause-width
drain_within-requires-clause-width c =
    c.queue_open_cells.ensures.width ∙ ap (λ trail. trail.width) c.clear.ensures

pub drain_within-requires-clause-inside : goal.drain_within-requires-clause-inside
drain_within-requires-clause-inside c =
    open_inside c.args.rect c.args.bounds c.args.size.w c.requires.lie
    (rw c.rect-part.ensures at c.queue_open_cells.ensures.joined) (ap (λ trail. trail.cells) c.clear.ensures)

pub drain_within-requires-clause-all : goal.drain_within-requires-clause-all
drain_within-requires-clause-all c =
    open_wait c.args.rect c.args.bounds c.args.size.w c.requires.lie
    (rw c.rect-part.ensures at c.queue_open_cells.ensures.joined) c.if-not-queue_open_cells.false c.requires.bounds
