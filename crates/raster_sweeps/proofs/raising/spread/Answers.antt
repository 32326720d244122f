use Rattle.std.proofs.Common.{arith}
use Rattle.raster_sweeps.proofs.RaisedBy.{around_in_image, cell_has_spread, cell_in_image, first_inside}
use Rattle.raster_sweeps.proofs.raising.spread.Goals as goal

pub bounds-image-cell : goal.bounds-image-cell
bounds-image-cell c =
    omega (
      arith,
      cell_in_image c.requires.close
          (first_inside c.args.rect c.args.size.w c.args.cell c.args.waiting.now c.requires.inside),
    )

pub cross_around-cross-requires-clause-inside : goal.cross_around-cross-requires-clause-inside
cross_around-cross-requires-clause-inside c =
    first_inside c.args.rect c.args.size.w c.args.cell c.args.waiting.now c.requires.inside

pub raise_cross-requires-clause-within : goal.raise_cross-requires-clause-within
raise_cross-requires-clause-within c k here =
    let found = first_inside c.args.rect c.args.size.w c.args.cell c.args.waiting.now c.requires.inside in
    around_in_image k c.requires.close (c.cross_around-cross.ensures found.0 found.1 found.2) here

pub returns-in-Four : goal.returns-in-Four
returns-in-Four c =
    rw c.in-Four.is (cell_has_spread c.requires.close c.requires.inside c.cross_around-cross.ensures
    c.raise_cross.ensures)

pub spans_around-spans-requires-clause-inside : goal.spans_around-spans-requires-clause-inside
spans_around-spans-requires-clause-inside c =
    first_inside c.args.rect c.args.size.w c.args.cell c.args.waiting.now c.requires.inside

pub raise_around-requires-clause-within : goal.raise_around-requires-clause-within
raise_around-requires-clause-within c k here =
    let found = first_inside c.args.rect c.args.size.w c.args.cell c.args.waiting.now c.requires.inside in
    around_in_image k c.requires.close (c.spans_around-spans.ensures found.0 found.1 found.2) here

pub returns-in-Eight : goal.returns-in-Eight
returns-in-Eight c =
    rw c.in-Eight.is (cell_has_spread c.requires.close c.requires.inside c.spans_around-spans.ensures
    c.raise_around.ensures)
