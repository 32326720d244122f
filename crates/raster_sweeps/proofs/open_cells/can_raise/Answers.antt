use Rattle.std.proofs.Common.{arith, refl}
use Rattle.raster_sweeps.specs.Growth.{cell_of}
use Rattle.raster_sweeps.proofs.{OpenCells.neighbour_rises, RaisedBy.around_in_image, RaisedBy.cell_in_image}
use Rattle.raster_sweeps.proofs.open_cells.can_raise.Goals as goal

pub bounds-image-cell : goal.bounds-image-cell
bounds-image-cell c = omega (arith, cell_in_image c.requires.close c.requires.inside)

pub can_raise_cross-requires-clause-within : goal.can_raise_cross-requires-clause-within
can_raise_cross-requires-clause-within c k here =
    let found = c.requires.inside in
    around_in_image k c.requires.close (c.cross_around.ensures found.0 found.1 found.2) here

pub returns-in-Four : goal.returns-in-Four
returns-in-Four c =
    rw c.in-Four.is (λ p q raises here.
    let rises =
    neighbour_rises c.args.size c.args.mask.now c.args.image.now
    (c.cross_around.ensures p raises.from_inside here) raises here refl in
    c.can_raise_cross.ensures (cell_of c.args.rect c.args.size.w q) rises.0 rises.1)

pub can_raise_around-requires-clause-within : goal.can_raise_around-requires-clause-within
can_raise_around-requires-clause-within c k here =
    let found = c.requires.inside in
    around_in_image k c.requires.close (c.spans_around.ensures found.0 found.1 found.2) here

pub returns-in-Eight : goal.returns-in-Eight
returns-in-Eight c =
    rw c.in-Eight.is (λ p q raises here.
    let rises =
    neighbour_rises c.args.size c.args.mask.now c.args.image.now
    (c.spans_around.ensures p raises.from_inside here) raises here refl in
    c.can_raise_around.ensures (cell_of c.args.rect c.args.size.w q) rises.0 rises.1)
